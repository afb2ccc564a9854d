-- The rows of a whole program, one after another, and how many there are: as many as its tree has lines.
use mathlib.Core.Path.{◌≡◌, refl, sym, ap, ◌∙◌}
use Prim.Native.Nat.{ℕ, ◌+◌}
use mathlib.Core.List.{List, [], ◌∷◌, ◌++◌, map, append_assoc, append-nil, map-append, map-map}
use lib.ListN.{length, length-append, length-map}
use native.Mathlib.Omega.{arith}
use Rattle.language.specs.Rows.{C_class, F_field, M_method, P_parameter, X_effect, S_start, V_local, Record}
use Rattle.language.specs.Rows.{written, Row, row_of}
use Rattle.language.specs.Tree.{DeclaredType, type_number, Expr, literal}
use Rattle.language.specs.Tree.{slot, is_null, get, cast, new, change, assign, set, call, choose, block}
use Rattle.language.specs.Tree.{Exprs, nil, cons, size, sizes, flatten, flattens, kind_number, Field}
use Rattle.language.specs.Tree.{Declaration, Class, Program, heading_lines, method_lines, methods_lines}
use Rattle.language.specs.Tree.{class_lines, classes_lines, flatten_methods, flatten_classes, flatten_program}

abbrev pub field_row : Field → Row
field_row f = row_of (written F_field (type_number f.type) f.name)

abbrev pub parameter_row : DeclaredType → Row
parameter_row t = row_of (written P_parameter (type_number t) 0)

abbrev pub effect_row : ℕ → Row
effect_row c = row_of (written X_effect c 0)

abbrev pub local_row : DeclaredType → Row
local_row t = row_of (written V_local (type_number t) 0)

abbrev pub heading : Declaration → Record
heading m = written M_method (type_number m.result) m.name

-- The rows of a method, of methods, before others.
abbrev pub method_rows : Declaration → List Row → List Row
method_rows m rs = row_of (heading m)
    ∷ (map parameter_row m.parameters
    ++ (map effect_row m.effects ++ (map row_of (flatten m.body) ++ rs)))

unfoldable pub methods_rows : List Declaration → List Row → List Row
methods_rows [] rs = rs
methods_rows (m ∷ ms) rs = method_rows m (methods_rows ms rs)

pub methods_are : (ms : List Declaration) (rs : List Row)
    → map row_of (flatten_methods ms) ++ rs ≡ methods_rows ms rs
unfolding flatten_methods methods_rows
methods_are [] rs = refl
methods_are (m ∷ ms) rs = ap (λ r. row_of (heading m) ∷ r)
    (rw (
      map-append row_of (map (λ t. written P_parameter (type_number t) 0) m.parameters)
          (map (λ c. written X_effect c 0) m.effects ++ (flatten m.body ++ flatten_methods ms)),
      map-append row_of (map (λ c. written X_effect c 0) m.effects)
          (flatten m.body ++ flatten_methods ms),
      map-append row_of (flatten m.body) (flatten_methods ms),
      map-map row_of (λ t. written P_parameter (type_number t) 0) m.parameters,
      map-map row_of (λ c. written X_effect c 0) m.effects,
      append_assoc (map parameter_row m.parameters)
          (map effect_row m.effects ++ (map row_of (flatten m.body) ++ map row_of (flatten_methods ms)))
          rs,
      append_assoc (map effect_row m.effects)
          (map row_of (flatten m.body) ++ map row_of (flatten_methods ms)) rs,
      append_assoc (map row_of (flatten m.body)) (map row_of (flatten_methods ms)) rs,
      methods_are ms rs,
    ))

-- The rows of classes, before others.
abbrev pub class_row : Class → Record
class_row c = written C_class (kind_number c.kind) c.super

unfoldable pub classes_rows : List Class → List Row → List Row
classes_rows [] rs = rs
classes_rows (c ∷ cs) rs =
    row_of (class_row c) ∷ (map field_row c.fields ++ methods_rows c.methods (classes_rows cs rs))

pub classes_are : (cs : List Class) (rs : List Row)
    → map row_of (flatten_classes cs) ++ rs ≡ classes_rows cs rs
unfolding flatten_classes classes_rows
classes_are [] rs = refl
classes_are (c ∷ cs) rs = ap (λ r. row_of (class_row c) ∷ r)
    (rw (
      map-append row_of (map (λ (f : Field). written F_field (type_number f.type) f.name) c.fields)
          (flatten_methods c.methods ++ flatten_classes cs),
      map-append row_of (flatten_methods c.methods) (flatten_classes cs),
      map-map row_of (λ (f : Field). written F_field (type_number f.type) f.name) c.fields,
      append_assoc (map field_row c.fields)
          (map row_of (flatten_methods c.methods) ++ map row_of (flatten_classes cs)) rs,
      append_assoc (map row_of (flatten_methods c.methods)) (map row_of (flatten_classes cs)) rs,
      classes_are cs rs,
      methods_are c.methods (classes_rows cs rs),
    ))

-- The rows of the S line and the start block.
abbrev pub start_rows : Expr → List Row
start_rows e = row_of (written S_start 0 0) ∷ (map row_of (flatten e) ++ [])

pub program_rows : (p : Program)
    → map row_of (flatten_program p) ≡ classes_rows p.classes (start_rows p.start)
unfolding flatten_program
program_rows p = map-append row_of (flatten_classes p.classes) (written S_start 0 0 ∷ flatten p.start)
    ∙ (classes_are p.classes (row_of (written S_start 0 0) ∷ map row_of (flatten p.start))
    ∙ ap (λ r. classes_rows p.classes (row_of (written S_start 0 0) ∷ r))
    (sym (append-nil (map row_of (flatten p.start)))))

-- An expression has as many rows as lines.
mutual
  unfolding flatten size

  pub length_flatten : (e : Expr) → length (flatten e) ≡ size e
  length_flatten (literal l) = refl
  length_flatten (slot k) = refl
  length_flatten (is_null e) = omega (arith, length_flatten e)
  length_flatten (get f e) = omega (arith, length_flatten e)
  length_flatten (cast c e) = omega (arith, length_flatten e)
  length_flatten (new c) = refl
  length_flatten (change k d) = refl
  length_flatten (assign k e) = omega (arith, length_flatten e)
  length_flatten (set f e e') =
      omega (arith, length-append (flatten e) (flatten e'), length_flatten e, length_flatten e')
  length_flatten (call m e es) =
      omega (arith, length-append (flatten e) (flattens es), length_flatten e, length_flattens es)
  length_flatten (choose a b c) = omega (
    arith,
    length-append (flatten a) (flatten b ++ flatten c),
    length-append (flatten b) (flatten c),
    length_flatten a,
    length_flatten b,
    length_flatten c,
  )
  length_flatten (block ts es) = omega (
    arith,
    length-append (map (λ t. written V_local (type_number t) 0) ts) (flattens es),
    length-map ts (λ t. written V_local (type_number t) 0),
    length_flattens es,
  )

  pub length_flattens : (es : Exprs) → length (flattens es) ≡ sizes es
  length_flattens nil = refl
  length_flattens (cons e es) =
      omega (arith, length-append (flatten e) (flattens es), length_flatten e, length_flattens es)

pub length_methods : (ms : List Declaration) → length (flatten_methods ms) ≡ methods_lines ms
unfolding flatten_methods methods_lines method_lines heading_lines
length_methods [] = refl
length_methods (m ∷ ms) = omega (
  arith,
  length-append (map (λ t. written P_parameter (type_number t) 0) m.parameters)
      (map (λ c. written X_effect c 0) m.effects ++ (flatten m.body ++ flatten_methods ms)),
  length-append (map (λ c. written X_effect c 0) m.effects) (flatten m.body ++ flatten_methods ms),
  length-append (flatten m.body) (flatten_methods ms),
  length-map m.parameters (λ t. written P_parameter (type_number t) 0),
  length-map m.effects (λ c. written X_effect c 0),
  length_flatten m.body,
  length_methods ms,
)

pub length_classes : (cs : List Class) → length (flatten_classes cs) ≡ classes_lines cs
unfolding flatten_classes classes_lines class_lines
length_classes [] = refl
length_classes (c ∷ cs) = omega (
  arith,
  length-append (map (λ (f : Field). written F_field (type_number f.type) f.name) c.fields)
      (flatten_methods c.methods ++ flatten_classes cs),
  length-append (flatten_methods c.methods) (flatten_classes cs),
  length-map c.fields (λ (f : Field). written F_field (type_number f.type) f.name),
  length_methods c.methods,
  length_classes cs,
)

-- A program has as many rows as lines: its classes', the S line, the start block's.
pub length_program : (p : Program)
    → length (flatten_program p) ≡ 1 + classes_lines p.classes + size p.start
unfolding flatten_program
length_program p = omega (
  arith,
  length-append (flatten_classes p.classes) (written S_start 0 0 ∷ flatten p.start),
  length_classes p.classes,
  length_flatten p.start,
)
