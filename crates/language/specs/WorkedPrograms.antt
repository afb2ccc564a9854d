-- The programs of the table in Worked, as they are typed. As in document 01, a space stands for a tab.
-- A quoted text holds a class, a method or a few expressions; `\n` is the line feed that ends a line.
use Rattle.std.specs.Prelude.{ℕ, cond, List, [], ◌∷◌, eqb}
use Prim.Native.Char.{code}
use Prim.Native.String.{String, [] as no_text, ◌∷◌ as ◌before◌, ◌++◌}

-- The bytes of a text as it is typed: 32, a space, becomes 9, a tab.
unfoldable pub typed : String → List ℕ
typed no_text = []
typed (c before s) = cond (eqb (code c) 32) 9 (code c) ∷ typed s

-- The starred programs.

-- A program ends after its start block, so empty text ends too early.
abbrev pub nothing : String
nothing = ""

-- A block has at least one expression.
abbrev pub no_expressions : String
no_expressions = "S\nB 0 0\n"

-- A program without classes, whose plain form is given in whole.
abbrev pub just_true : String
just_true = "S\nB 0 1\nT\n"

-- Its plain form: Identity, FickleObject and the same start.
abbrev pub just_true_plain : String
just_true_plain = "C 0 0\nF 2 255\nC 0 0\nF 1 254\nS\nB 0 1\nT\n"

-- Program D: a field of the root is set, the object changes from one state class to the other, and the field is read.
abbrev pub program_d : String
program_d = "C 1 0\nF 255 0\n" ++ "C 2 1\n" ++ "C 2 1\n" ++ "S\nB 1 4\nV 1\n"
    ++ "A 1\nW 2\n" ++ "U 0\nI 1\nT\n" ++ "R 1 3\n" ++ "G 0\nI 1\n"

-- D with a field 1 only in class 2, read at the end: the object has left that class.
abbrev pub field_below : String
field_below = "C 1 0\nF 255 0\n" ++ "C 2 1\nF 255 1\n" ++ "C 2 1\n" ++ "S\nB 1 4\nV 1\n"
    ++ "A 1\nW 2\n" ++ "U 0\nI 1\nT\n" ++ "R 1 3\n" ++ "G 1\nI 1\n"

-- A field's type is a state class.
abbrev pub state_field : String
state_field = "C 1 0\nF 2 0\n" ++ "C 2 1\n" ++ "S\nB 0 1\nT\n"

-- A state class under Object.
abbrev pub state_under_object : String
state_under_object = "C 2 0\n" ++ "S\nB 0 1\nT\n"

-- A method that changes `this` without X.
abbrev pub change_this : String
change_this = "C 1 0\nM 1 0\nB 0 1\nR 0 1\n" ++ "S\nB 0 1\nT\n"

-- A null receiver, and an argument that raises exception 2 before the receiver is looked at.
abbrev pub null_receiver : String
null_receiver = "C 0 0\nM 255 0\nP 2\nB 0 1\nT\n" ++ "C 0 0\n" ++ "S\nB 1 1\nV 1\n" ++
    "Q 0 1\nI 1\nK 2\nW 1\n"

-- Programs that plausible errors get wrong.

-- Two state classes with a field of the same name below their root: it is set, the class is changed, and the field has
-- its first value again.
abbrev pub same_field : String
same_field = "C 1 0\n" ++ "C 2 1\nF 255 0\n" ++ "C 2 1\nF 255 0\n" ++ "S\nB 1 4\nV 1\n"
    ++ "A 1\nW 2\n" ++ "U 0\nR 1 2\nT\n" ++ "R 1 3\n" ++ "G 0\nR 1 3\n"

-- Two methods, of which the second gives null for bool.
abbrev pub second_method : String
second_method = "C 0 0\nM 255 0\nB 0 1\nT\n" ++ "M 255 1\nB 0 1\nN\n" ++ "S\nB 0 1\nT\n"

-- The other outcomes of a run.

-- The value null.
abbrev pub just_null : String
just_null = "S\nB 0 1\nN\n"

-- A new object of class Object; its plain form gives the Identity.
abbrev pub just_object : String
just_object = "S\nB 0 1\nW 0\n"

-- A field of null is read: exception 1.
abbrev pub null_object : String
null_object = "C 0 0\nF 255 0\n" ++ "S\nB 1 1\nV 1\n" ++ "G 0\nI 1\n"

-- A field has the name that the translator reserves for `id`.
abbrev pub reserved_name : String
reserved_name = "C 0 0\nF 255 254\n" ++ "S\nB 0 1\nT\n"

-- A method with a parameter and an effect changes `this`, sets a field of the root and asks whether `this` is null: 26
-- rows.
abbrev pub long_method : String
long_method = "C 1 0\nF 255 0\n" ++ "M 255 1\nP 255\nX 1\nB 0 3\n"
    ++ "R 0 3\n" ++ "U 0\nI 0\nI 1\n" ++ "J\nG 0\nI 0\nZ\nI 0\nL\n" ++ "C 2 1\n" ++ "C 2 1\n"
    ++ "S\nB 1 2\nV 1\n" ++ "A 1\nW 2\n" ++ "Q 1 1\nI 1\nT\n"

-- Its plain form: the classes, the method, the change of `this`, the field, the choice, and the start.
abbrev pub long_method_plain : String
long_method_plain = "C 0 0\nF 2 255\n" ++ "C 0 0\nF 1 254\n" ++ "C 0 2\nF 255 0\n" ++
    "M 255 1\nP 255\nB 0 3\n"
    ++ "B 3 3\nV 1\nV 5\nV 3\n" ++ "A 2\nG 254\nI 0\n"
    ++ "B 0 6\n" ++ "A 3\nW 5\n" ++ "A 4\nK 3\nG 255\nI 2\n" ++ "U 254\nI 3\nI 2\n" ++ "U 255\nI 2\nI 3\n"
    ++ "U 0\nI 3\nG 0\nI 4\n" ++ "I 2\n" ++ "I 2\n"
    ++ "B 2 3\nV 1\nV 255\n" ++ "A 2\nG 254\nI 0\n" ++ "A 3\nI 1\n" ++ "U 0\nK 5\nG 255\nI 2\nI 3\n"
    ++ "J\nG 0\nK 5\nG 255\nG 254\nI 0\nZ\nG 254\nI 0\nL\n" ++ "C 0 3\n" ++ "C 0 3\n"
    ++ "S\nB 1 2\nV 1\n" ++ "A 1\nB 2 5\nV 1\nV 4\n" ++ "A 2\nW 1\n" ++ "A 3\nW 4\n"
    ++ "U 254\nI 3\nI 2\n" ++ "U 255\nI 2\nI 3\n" ++ "I 2\n"
    ++ "B 2 3\nV 1\nV 255\n" ++ "A 2\nI 1\n" ++ "A 3\nT\n" ++ "Q 1 1\nK 3\nG 255\nI 2\nI 3\n"

-- A method that calls itself: the call with 64 calls active is too deep.
abbrev pub deep_recursion : String
deep_recursion = "C 0 0\nM 255 0\nB 0 1\nQ 0 0\nI 0\n" ++ "S\nB 0 1\nQ 0 0\nW 1\n"

-- Three objects are made, the first of which holds true and the second.
abbrev pub three_objects : String
three_objects = "C 0 0\nF 255 0\nF 1 1\n" ++ "S\nB 1 4\nV 1\n" ++ "A 1\nW 1\n" ++ "U 0\nI 1\nT\n" ++
    "U 1\nI 1\nW 1\n"
    ++ "W 1\n"

-- A method that makes three objects and calls itself: the running program's store is full before the calls are too
-- deep.
abbrev pub store_full : String
store_full = "C 0 0\nM 255 0\nB 0 4\nW 1\nW 1\nW 1\nQ 0 0\nI 0\n" ++ "S\nB 0 1\nQ 0 0\nW 1\n"

-- Texts for the reader.

-- Every letter with as many numbers as it takes; no program.
abbrev pub every_letter : String
every_letter = "C 1 2\nF 3 4\nM 5 6\nP 7\nX 8\nS\nB 9 10\nV 11\n" ++ "T\nL\nN\nI 12\nZ\nG 13\nK 14\nW 15\n"
    ++ "R 16 17\nA 18\nU 19\nQ 20 65535\nJ\n"

-- The last line does not end in a line feed.
abbrev pub no_line_feed : String
no_line_feed = "S\nB 0 1\nT"

-- A number with a needless leading zero.
abbrev pub leading_zero : String
leading_zero = "S\nB 0 01\nT\n"

-- A number above 65,535.
abbrev pub number_too_large : String
number_too_large = "S\nB 0 65536\nT\n"

-- A letter with a number too few.
abbrev pub number_missing : String
number_missing = "S\nB 0\nT\n"

-- A letter with a number too many.
abbrev pub number_too_many : String
number_too_many = "S\nB 0 1\nT 0\n"

-- A letter that no record has.
abbrev pub no_such_letter : String
no_such_letter = "S\nB 0 1\nY\n"
