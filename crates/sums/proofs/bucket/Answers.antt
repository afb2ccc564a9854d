-- `sums::bucket` meets its contract. Assumes nothing.
use mathlib.Core.Path.{refl}
use Rattle.sums.specs.Window.{bucket_of}
use Rattle.sums.proofs.Chains.{bucket_small}
use Rattle.sums.proofs.bucket.Goals as goal

pub returns : goal.returns
unfolding bucket_of
returns c = rw c.from.ensures (refl, bucket_small c.args.buckets c.args.model c.requires)
