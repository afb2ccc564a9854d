-- The limits, sizes and refusals that document 01 names as numbers, each under a name of its own. The codes of letters
-- are in Rows, those of kinds in Tree, those of values in Store.
use Rattle.std.specs.Prelude.{ℕ, ◌+◌, ◌*◌}

-- Document 01, "Lines and rows": the table of what there may be at most.
pub record Most : Type 0 where
  pub rows : ℕ
  pub classes : ℕ
  pub fields : ℕ
  pub parameters : ℕ
  pub slots : ℕ
  pub nesting : ℕ
  pub name : ℕ

-- Its column "checked program".
abbrev pub of_check : Most
of_check =
    record { rows = 60000; classes = 64; fields = 17; parameters = 8; slots = 256; nesting = 128; name = 255 }

-- Its column "translator's input".
abbrev pub of_translator : Most
of_translator =
    record { rows = 680; classes = 62; fields = 16; parameters = 8; slots = 32; nesting = 24; name = 255 }

-- The largest number on a line, the digits that one may have, and how many numbers a row has.
abbrev pub largest : ℕ
largest = 65535

abbrev pub most_digits : ℕ
most_digits = 5

abbrev pub numbers_a_row : ℕ
numbers_a_row = 4

-- Type number 255 stands for bool, class number 0 for Object.
abbrev pub bool_number : ℕ
bool_number = 255

abbrev pub object_class : ℕ
object_class = 0

-- "Evaluation": fuel, calls active at once, numbers of an object, objects in a store, exceptions.
abbrev pub most_fuel : ℕ
most_fuel = 100000000

abbrev pub most_calls : ℕ
most_calls = 64

-- How many numbers of a store a value has, and an object: its class, then its fields.
abbrev pub value_width : ℕ
value_width = 1

abbrev pub object_width : ℕ
object_width = 1 + of_check.fields * value_width

abbrev pub most_objects : ℕ
most_objects = 65535

abbrev pub null_exception : ℕ
null_exception = 1

abbrev pub cast_exception : ℕ
cast_exception = 2

-- "The plain program": classes Identity and FickleObject, their fields `imp` and `id`,
-- and the most steps of a plain program for one step of its source.
abbrev pub identity_class : ℕ
identity_class = 1

abbrev pub fickle_class : ℕ
fickle_class = 2

abbrev pub imp_field : ℕ
imp_field = 255

abbrev pub id_field : ℕ
id_field = 254

abbrev pub plain_steps_a_step : ℕ
plain_steps_a_step = 84

-- "Refusals and stops": the numbers of the words, and the line of what stands on no line.
abbrev pub line_refusal : ℕ
line_refusal = 1

abbrev pub limit_refusal : ℕ
limit_refusal = 2

abbrev pub place_refusal : ℕ
place_refusal = 3

abbrev pub name_refusal : ℕ
name_refusal = 4

abbrev pub kind_refusal : ℕ
kind_refusal = 5

abbrev pub override_refusal : ℕ
override_refusal = 6

abbrev pub slot_refusal : ℕ
slot_refusal = 7

abbrev pub member_refusal : ℕ
member_refusal = 8

abbrev pub type_refusal : ℕ
type_refusal = 9

abbrev pub effect_refusal : ℕ
effect_refusal = 10

abbrev pub change_refusal : ℕ
change_refusal = 11

abbrev pub reserved_refusal : ℕ
reserved_refusal = 12

abbrev pub room_refusal : ℕ
room_refusal = 13

abbrev pub spent_stop : ℕ
spent_stop = 14

abbrev pub deep_stop : ℕ
deep_stop = 15

abbrev pub full_stop : ℕ
full_stop = 16

abbrev pub no_line : ℕ
no_line = 0

-- "Worked programs": what the two programs hold, bytes of text, numbers of 680 source rows and of 1,000 plain rows, and
-- what the running program lends, numbers of a store and fuel.
abbrev pub text_room : ℕ
text_room = 8192

abbrev pub source_room : ℕ
source_room = numbers_a_row * 680

abbrev pub plain_room : ℕ
plain_room = numbers_a_row * 1000

abbrev pub store_room : ℕ
store_room = 3000

abbrev pub program_fuel : ℕ
program_fuel = 10000
