use Rattle.machine.proofs.Checked.{some_start, pre_start, checked_done}
use Rattle.frames.proofs.Frames.{zeros}
use Rattle.machine.proofs.run_checked.Goals as goal

pub find_letter-start-requires : goal.find_letter-start-requires
find_letter-start-requires c = some_start c.requires

pub run_start-requires : goal.run_start-requires
run_start-requires c = pre_start c.requires c.find_letter-start.ensures zeros

pub returns : goal.returns
returns c = checked_done c.requires c.find_letter-start.ensures zeros c.run_start.ensures
