-- What each function of the heading pass is called on: the part of a program that its rows hold, and what the tables hold.
use Rattle.std.specs.Prelude.{◌≡◌, ℕ, ◌+◌, ◌*◌, ◌≤◌, ◌<◌, ◌⊎◌, List, length, get_or}
use Rattle.std.proofs.Math.Option.{some}
use Rattle.language.specs.Tree.{kind_number, Class, Program}
use Rattle.language.specs.Program.{class_at}
use Rattle.language.specs.ClassTables.{class_row, class_width}
use Rattle.language.specs.MethodTables.{method_width}
use Rattle.language.specs.Layout.{ProgramAt}
use Rattle.members.specs.Blocks.{Lookups}
use Rattle.members.specs.Numbers.{numbers_a_method, most_methods, first_number}
use Rattle.members.specs.Numbers.{Numbered}

pub record ReadReady (R E T : List ℕ) : Type 0 where
  pub program : Program
  pub standing : ProgramAt R E program
  pub long : (length program.classes + 1) * class_width ≤ length T
  pub zero : (i : ℕ) → i < class_width → get_or T i 0 ≡ 0

pub record StartReady (T : List ℕ) (k over kind : ℕ) : Type 0 where
  pub P : List Class
  pub lookups : Lookups P k T
  pub one : Class
  pub is : class_at P k ≡ some one
  pub over_is : over ≡ one.super
  pub earlier : over < k
  pub kind_is : kind ≡ kind_number one.kind

pub record ClassReady (R E T M F : List ℕ) (k r first count : ℕ) : Type 0 where
  pub program : Program
  pub standing : ProgramAt R E program
  pub lookups : Lookups program.classes k T
  pub entered : Numbered program.classes M F first
  pub one : Class
  pub is : class_at program.classes k ≡ some one
  pub row_is : r ≡ class_row program.classes k
  pub first_is : first ≡ first_number program.classes k
  pub count_is : count ≡ length program.classes

pub record ClassesReady (R E T A M F : List ℕ) (count : ℕ) : Type 0 where
  pub program : Program
  pub standing : ProgramAt R E program
  pub lookups : Lookups program.classes 1 T
  pub long_above : length program.classes + 1 ≤ length A
  pub object : get_or A 0 0 ≡ 0
  pub entered : Numbered program.classes M F 0
  pub count_is : count ≡ length program.classes

-- The pass itself: a program that stands in the rows, and tables that are long enough.
pub record HeadingsReady (R E T A M F : List ℕ) : Type 0 where
  pub program : Program
  pub standing : ProgramAt R E program
  pub long : (length program.classes + 1) * class_width ≤ length T
  pub long_above : length program.classes + 1 ≤ length A
  pub long_methods : (length R * method_width ≤ numbers_a_method * length M)
      ⊎ (most_methods * method_width ≤ length M)
  pub long_effects : (length R ≤ numbers_a_method * length F) ⊎ (most_methods ≤ length F)
