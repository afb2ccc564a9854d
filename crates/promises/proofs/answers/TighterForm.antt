-- Tighter limits: of rows that the pass over form reads within wide limits it reads the same program within
-- tight ones, or it refuses with 2 on a line of that program that is over them.
use mathlib.Core.Path.{◌≡◌, refl, sym, ap, subst}
use Prim.Native.Nat.{ℕ, zero, suc, ◌+◌, ◌<◌}
use mathlib.Core.Logic.{◌⊎◌, inl, inr}
use mathlib.Core.Bool.{Bool, true, false}
use mathlib.Core.Option.{Option, none, some}
use mathlib.Core.List.{List, [], ◌∷◌, map}
use lib.ListN.{length, length-map}
use lib.Dec.{ltb}
use borrow.Author.Tests.{ltb-false}
use native.Mathlib.Omega.{arith}
use Rattle.language.specs.Limits.{Most, limit_refusal}
use Rattle.language.specs.Lists.{given}
use Rattle.language.specs.Results.{Checked, accept, refuse, bind_checked, require, require_inv}
use Rattle.language.specs.Results.{accept_injective, accept≢refuse}
use Rattle.language.specs.Rows.{Letter, C_class, F_field, M_method, P_parameter, X_effect, S_start, Record}
use Rattle.language.specs.Rows.{same_letter, Row}
use Rattle.language.specs.Tree.{DeclaredType, type_of_number, Expr, size, Field, Declaration, method_lines}
use Rattle.language.specs.Tree.{methods_lines, Class, class_lines, classes_lines, Program}
use Rattle.language.specs.World.{World}
use Rattle.language.specs.Program.{world}
use Rattle.language.specs.Form.{Read, read, after, if_letter, record_on, next, maybe, body, class_of, fields}
use Rattle.language.specs.Form.{parameters, effects, method, methods, classes, at_end, form}
use Rattle.language.specs.Uses.{a_field, a_parameter, no_use, counted, method_uses, methods_uses, class_uses}
use Rattle.language.specs.Uses.{classes_uses, program_uses, too_many_classes, too_many_parameters}
use Rattle.theory.proofs.acceptance.Translatable.{Tighter}
use Rattle.theory.proofs.reading.FlattenParse.{after_inv, next_inv}
use Rattle.promises.proofs.answers.OnLines.{here, later, on_left, on_right}
use Rattle.promises.proofs.answers.UseLaws.{Excess, counted_length, method_length, class_length}
use Rattle.promises.proofs.answers.UseLaws.{classes_length}
use Rattle.promises.proofs.answers.TighterNodes.{Cuts, same, over_rows, over, unsaid, Over, is_over}
use Rattle.promises.proofs.answers.TighterNodes.{over_any}
use Rattle.promises.proofs.answers.TighterNodes.{over_after, over_accepted, cuts_after, cuts_require}
use Rattle.promises.proofs.answers.TighterNodes.{cuts_last}
use Rattle.promises.proofs.answers.TighterNodes.{with_last, record_either, next_cuts, body_cuts}

module _ (wide tight : Most) (t : Tighter tight wide) (names : wide.name ≡ tight.name) where
  -- Rows past the last one that tight limits allow: nothing more is read of them.
  data Blocked (at : ℕ) : List Row → Type 0 where
    blocked : {r : Row} {rs : List Row} → tight.rows < at → record_on tight at r ≡ refuse limit_refusal at
        → Blocked at (r ∷ rs)

  next_blocked : {B : Type 0} {at : ℕ} {rs : List Row} (k : Record → List Row → Checked B) → Blocked at rs
      → Over tight (next tight at rs k)
  unfolding next bind_checked
  next_blocked k (blocked h e) = rw e (is_over h)

  body_blocked : {at : ℕ} {rs : List Row} (n : ℕ) → Blocked at rs → Over tight (body tight n at rs)
  unfolding body
  body_blocked n b = next_blocked _ b

  maybe_blocked : (letter : Letter) (at : ℕ) (r : Row) (rs : List Row) → Blocked at (r ∷ rs)
      → maybe tight letter at r ≡ none
  unfolding if_letter
  maybe_blocked letter at r rs (blocked l e) = rw e

  -- A record is sought alike, or the rows are blocked.
  maybe_either : (letter : Letter) (at : ℕ) (r : Row) (rs : List Row)
      → (maybe wide letter at r ≡ maybe tight letter at r) ⊎ Blocked at (r ∷ rs)
  maybe_either letter at r rs = elim (record_either t names at r)
      [ inl e ↦ inl (ap (if_letter letter) e) | inr e ↦ inr (blocked e.0 e.1) ]

  -- No X line is read of blocked rows.
  effects_blocked : {at : ℕ} {rs : List Row} → Blocked at rs → effects tight at rs ≡ read [] rs
  unfolding effects
  effects_blocked {at} (blocked {r} {rs} l e) = rw (maybe_blocked X_effect at r rs (blocked l e))

  -- F and X lines are read alike, or the rows after them are blocked.
  abbrev Lines : {A : Type 0} → ℕ → Read (List A) → Read (List A) → Type 0
  Lines at x y = (x ≡ y) ⊎ Blocked (at + length y.tree) y.rest

  -- A list that is read as long as its lines come: the line of a letter, if it is there, and what is read after it.
  abbrev longer : {A : Type 0} → (Record → A) → Row → List Row → Read (List A) → Option Record → Read (List A)
  longer of r rs x o = given o (read [] (r ∷ rs)) λ z. read (of z ∷ x.tree) x.rest

  line_either : {A : Type 0} (letter : Letter) (of : Record → A) (at : ℕ) (r : Row) (rs : List Row)
      {x y : Read (List A)} → Lines (at + 1) x y
      → Lines at (longer of r rs x (maybe wide letter at r)) (longer of r rs y (maybe tight letter at r))
  line_either letter of at r rs {x} {y} h = go (maybe_either letter at r rs)
    where
      step : (o : Option Record) → Lines (at + 1) x y → Lines at (longer of r rs x o) (longer of r rs y o)
      step none h = inl refl
      step (some z) (inl e) = inl (rw e)
      step (some z) (inr b) = inr (subst (λ (n : ℕ). Blocked n y.rest) (omega arith) b)

      go : (maybe wide letter at r ≡ maybe tight letter at r) ⊎ Blocked at (r ∷ rs)
          → Lines at (longer of r rs x (maybe wide letter at r)) (longer of r rs y (maybe tight letter at r))
      go (inl e) = rw e (step (maybe tight letter at r) h)
      go (inr b) = rw (maybe_blocked letter at r rs b)
          (inr (subst (λ (n : ℕ). Blocked n (r ∷ rs)) (omega arith) b))

  fields_either : (at : ℕ) (rs : List Row) → Lines at (fields wide at rs) (fields tight at rs)
  unfolding fields
  fields_either at [] = inl refl
  fields_either at (r ∷ rs) =
      line_either F_field (λ x. record { type = type_of_number x.first; name = x.second }) at r rs
      (fields_either (at + 1) rs)

  effects_either : (at : ℕ) (rs : List Row) → Lines at (effects wide at rs) (effects tight at rs)
  unfolding effects
  effects_either at [] = inl refl
  effects_either at (r ∷ rs) = line_either X_effect (λ x. x.first) at r rs (effects_either (at + 1) rs)

  -- Lists that are read as long as their lines come: cut, or the rows after what was read, which begin at its
  -- end, are blocked.
  data CutsRead {A : Type 0} (end : A → ℕ) (P : Read A → ℕ → Type 0) (r : Checked (Read A)) :
      Checked (Read A) → Type 0 where
    is_cut : {r' : Checked (Read A)} → Cuts tight P r r' → CutsRead end P r r'
    blocked_read : {a : A} {rs : List Row} → Blocked (end a) rs → CutsRead end P r (accept (read a rs))

  -- What follows such a list.
  after_read : {A B : Type 0} {end : A → ℕ} {P : Read A → ℕ → Type 0} {Q : B → ℕ → Type 0}
      {r r' : Checked (Read A)} {k k' : A → List Row → Checked B} → CutsRead end P r r'
      → ((a : A) (rs : List Row) (l : ℕ) → P (read a rs) l → (b : B) → k a rs ≡ accept b → Q b l)
      → ((a : A) (rs : List Row) → Cuts tight Q (k a rs) (k' a rs))
      → ((a : A) (rs : List Row) → Blocked (end a) rs → Over tight (k' a rs))
      → Cuts tight Q (after r k) (after r' k')
  unfolding after
  after_read (is_cut c) lift f g = cuts_after c lift (λ a rs _. f a rs)
  after_read (blocked_read b) lift f g = over_any (g _ _ b)

  -- A list of which the part read first was cut, and one after such a list.
  module _ {A B : Type 0} {end₂ : B → ℕ} {P : Read A → ℕ → Type 0} {Q : Read B → ℕ → Type 0}
      {k k' : A → List Row → Checked (Read B)}
    where
      read-after : {r r' : Checked (Read A)} → Cuts tight P r r'
          → ((a : A) (rs : List Row) (l : ℕ) → P (read a rs) l → (y : Read B) → k a rs ≡ accept y → Q y l)
          → ((a : A) (rs : List Row) → CutsRead end₂ Q (k a rs) (k' a rs))
          → CutsRead end₂ Q (after r k) (after r' k')
      unfolding after
      read-after same lift f = f _ _
      read-after (over_rows h) lift f = is_cut (over_rows h)
      read-after (over h) lift f = is_cut (over_accepted _ (lift _ _ _ h))
      read-after unsaid lift f = is_cut unsaid

      read-read : {end : A → ℕ} {r r' : Checked (Read A)} → CutsRead end P r r'
          → ((a : A) (rs : List Row) (l : ℕ) → P (read a rs) l → (y : Read B) → k a rs ≡ accept y → Q y l)
          → ((a : A) (rs : List Row) → CutsRead end₂ Q (k a rs) (k' a rs))
          → ((r : Checked (Read B)) (a : A) (rs : List Row) → Blocked (end a) rs
          → CutsRead end₂ Q r (k' a rs))
          → CutsRead end₂ Q (after r k) (after r' k')
      unfolding after
      read-read (is_cut c) lift f g = read-after c lift f
      read-read (blocked_read b) lift f g = g _ _ _ b

  read_limit : {A : Type 0} {end : A → ℕ} {P : Read A → ℕ → Type 0} (b b' : Bool) (l : ℕ)
      {k k' : Bool → Checked (Read A)} → (b' ≡ false → (y : Read A) → k true ≡ accept y → P y l)
      → ((b : Bool) → CutsRead end P (k b) (k' b))
      → CutsRead end P (require b limit_refusal l k) (require b' limit_refusal l k')
  unfolding require
  read_limit true false l g f = is_cut (over_accepted _ (g refl))
  read_limit false false l g f = is_cut unsaid
  read_limit true true l g f = f true
  read_limit false true l g f = is_cut unsaid

  -- A list that stops at once, its first record blocked, and one whose first record, if it is there, is read
  -- alike.
  read_given : {A : Type 0} {end : A → ℕ} {P : Read A → ℕ → Type 0} (letter : Letter) (at : ℕ) (r : Row)
      (rs : List Row) (none_yet : A)
      → end none_yet ≡ at → {k k' : Record → Checked (Read A)} → ((x : Record) → CutsRead end P (k x) (k' x))
      → CutsRead end P (given (maybe wide letter at r) (accept (read none_yet (r ∷ rs))) k)
      (given (maybe tight letter at r) (accept (read none_yet (r ∷ rs))) k')
  read_given {A} {end} {P} letter at r rs none_yet q {k} {k'} f = go (maybe_either letter at r rs)
    where
      step : (o : Option Record) → CutsRead end P (given o (accept (read none_yet (r ∷ rs))) k)
          (given o (accept (read none_yet (r ∷ rs))) k')
      step none = is_cut same
      step (some x) = f x

      go : (maybe wide letter at r ≡ maybe tight letter at r) ⊎ Blocked at (r ∷ rs)
          → CutsRead end P (given (maybe wide letter at r) (accept (read none_yet (r ∷ rs))) k)
          (given (maybe tight letter at r) (accept (read none_yet (r ∷ rs))) k')
      go (inl e) = rw e (step (maybe tight letter at r))
      go (inr b) = rw (maybe_blocked letter at r rs b)
          (blocked_read (subst (λ (n : ℕ). Blocked n (r ∷ rs)) (sym q) b))

  -- One more before what is read.
  read_more : {A : Type 0} {end end₂ : A → ℕ} {P Q : Read A → ℕ → Type 0} (f : A → A)
      → ((a : A) → end a ≡ end₂ (f a)) → {r r' : Checked (Read A)} → CutsRead end P r r'
      → ((a : A) (rs : List Row) (l : ℕ) → P (read a rs) l → Q (read (f a) rs) l)
      → CutsRead end₂ Q (after r (λ a rs. accept (read (f a) rs))) (after r' (λ a rs. accept (read (f a) rs)))
  unfolding after
  read_more f q (is_cut c) g = is_cut (cuts_last f c g)
  read_more f q (blocked_read {a} {rs} b) g = blocked_read (subst (λ (n : ℕ). Blocked n rs) (q a) b)

  -- Of P lines after n of them, of a method, of methods and of classes after n of them, the first on line
  -- `at`: a line that exceeds tight limits. Of classes it holds in every world, since form counts no fields.
  abbrev ParametersOver : ℕ → ℕ → Read (List DeclaredType) → ℕ → Type 0
  ParametersOver n at x l = Excess tight at (counted a_parameter n x.tree) l

  abbrev MethodOver : ℕ → Read Declaration → ℕ → Type 0
  MethodOver at x l = Excess tight at (method_uses x.tree) l

  abbrev MethodsOver : ℕ → Read (List Declaration) → ℕ → Type 0
  MethodsOver at x l = Excess tight at (methods_uses x.tree) l

  abbrev ClassesOver : ℕ → ℕ → Read (List Class) → ℕ → Type 0
  ClassesOver n at x l = (W : World) → Excess tight at (classes_uses W (suc n) x.tree) l

  parameters_cuts : (n at : ℕ) (rs : List Row) → CutsRead (λ ts. at + length ts) (ParametersOver n at)
      (parameters wide n at rs) (parameters tight n at rs)
  unfolding parameters counted
  parameters_cuts n at [] = is_cut same
  parameters_cuts n at (r ∷ rs) = read_given P_parameter at r rs [] (omega arith) λ x.
      read_limit (ltb n wide.parameters) (ltb n tight.parameters) at
      (λ e. with_last _ (λ (ts : List DeclaredType). type_of_number x.first ∷ ts)
      (λ y. ParametersOver n at y at) λ ts rs.
      here (too_many_parameters (omega (arith, ltb-false n tight.parameters e)))) λ _.
      read_more (λ (ts : List DeclaredType). type_of_number x.first ∷ ts) (λ ts. omega arith)
      (parameters_cuts (suc n) (at + 1) rs) λ ts rs l h. later h

  method_cuts : (at : ℕ) (m : Record) (rs : List Row)
      → Cuts tight (MethodOver at) (method wide at m rs) (method tight at m rs)
  unfolding method method_uses
  method_cuts at m rs = after_read (parameters_cuts 0 (at + 1) rs)
      (λ ts rest l h. with_last _ (declaration ts (effects wide (at + 1 + length ts) rest).tree)
      (λ y. MethodOver at y l) λ e rest. later (on_left _ h))
      (λ ts rest. go ts _ _ (effects_either (at + 1 + length ts) rest))
      (λ ts rest b. rw (effects_blocked b) (over_after _ (body_blocked (1 + length ts)
      (subst (λ (n : ℕ). Blocked n rest) (omega arith) b))))
    where
      declaration : List DeclaredType → List ℕ → Expr → Declaration
      declaration ts xs e = record {
        result = type_of_number m.first;
        name = m.second;
        parameters = ts;
        effects = xs;
        body = e;
      }

      tail : Most → List DeclaredType → Read (List ℕ) → Checked (Read Declaration)
      tail most ts xs = after (body most (1 + length ts) (at + 1 + length ts + length xs.tree) xs.rest)
          λ e rest. accept (read (declaration ts xs.tree e) rest)

      go : (ts : List DeclaredType) (x y : Read (List ℕ)) → Lines (at + 1 + length ts) x y
          → Cuts tight (MethodOver at) (tail wide ts x) (tail tight ts y)
      go ts x y (inl e) = rw e (cuts_last (declaration ts y.tree)
          (body_cuts t names (1 + length ts) (at + 1 + length ts + length y.tree) y.rest)
          λ e rest l h. later (on_right (counted a_parameter 0 ts) (length ts)
          (counted_length a_parameter 0 ts)
          (on_right (map (λ _. no_use) y.tree) (length y.tree) (length-map y.tree (λ _. no_use)) h)))
      go ts x y (inr b) = over_any (over_after _ (body_blocked (1 + length ts) b))

  methods_cuts : (k at : ℕ) (rs : List Row) → CutsRead (λ ms. at + methods_lines ms) (MethodsOver at)
      (methods wide k at rs) (methods tight k at rs)
  unfolding methods methods_lines methods_uses
  methods_cuts zero at rs = is_cut same
  methods_cuts (suc k) at [] = is_cut same
  methods_cuts (suc k) at (r ∷ rs) = read_given M_method at r rs [] (omega arith) λ x.
      read-after (method_cuts at x rs)
      (λ m rest l h. with_last _ (λ (ms : List Declaration). m ∷ ms) (λ y. MethodsOver at y l)
      λ ms rest. on_left _ h) λ m rest.
      read_more (λ (ms : List Declaration). m ∷ ms) (λ ms. omega arith)
      (methods_cuts k (at + method_lines m) rest) λ ms rest l h.
      on_right (method_uses m) (method_lines m) (method_length m) h

  methods_blocked : {at : ℕ} {rs : List Row} (k : ℕ) → Blocked at rs
      → methods tight k at rs ≡ accept (read [] rs)
  unfolding methods
  methods_blocked zero b = refl
  methods_blocked {at} (suc k) (blocked {r} {rs} l e) = rw (maybe_blocked M_method at r rs (blocked l e))

  classes_blocked : {at : ℕ} {rs : List Row} (k n : ℕ) → Blocked at rs
      → classes tight k n at rs ≡ accept (read [] rs)
  unfolding classes
  classes_blocked zero n b = refl
  classes_blocked {at} (suc k) n (blocked {r} {rs} l e) = rw (maybe_blocked C_class at r rs (blocked l e))

  -- A class after which the rows are blocked is the last.
  last_class : {P : Read (List Class) → ℕ → Type 0} (r : Checked (Read (List Class))) (k n at : ℕ) (c : Class)
      (rs : List Row) → Blocked (at + class_lines c) rs
      → CutsRead (λ cs. at + classes_lines cs) P r
      (after (classes tight k n (at + class_lines c) rs) (λ cs rest. accept (read (c ∷ cs) rest)))
  unfolding after classes_lines
  last_class r k n at c rs b =
      rw (classes_blocked k n b) (blocked_read {a = c ∷ []} (subst (λ (m : ℕ). Blocked m rs) (omega arith) b))

  -- A class after whose fields the rows are blocked has no methods and is the last.
  class_blocked : {P : Read (List Class) → ℕ → Type 0} (r : Checked (Read (List Class))) (i k n at : ℕ)
      (x : Record) (gs : Read (List Field)) → Blocked (at + 1 + length gs.tree) gs.rest
      → CutsRead (λ cs. at + classes_lines cs) P r
      (after (methods tight i (at + 1 + length gs.tree) gs.rest) λ ms rest.
      after (classes tight k n (at + class_lines (class_of x gs.tree ms)) rest) λ cs rest.
      accept (read (class_of x gs.tree ms ∷ cs) rest))
  unfolding after class_lines methods_lines
  class_blocked r i k n at x gs b =
      rw (methods_blocked i b) (last_class r k n at (class_of x gs.tree []) gs.rest
      (subst (λ (m : ℕ). Blocked m gs.rest) (omega arith) b))

  classes_cuts : (k n at : ℕ) (rs : List Row) → CutsRead (λ cs. at + classes_lines cs) (ClassesOver n at)
      (classes wide k n at rs) (classes tight k n at rs)
  unfolding classes classes_lines class_lines methods_lines classes_uses class_uses
  classes_cuts zero n at rs = is_cut same
  classes_cuts (suc k) n at [] = is_cut same
  classes_cuts (suc k) n at (r ∷ rs) = read_given C_class at r rs [] (omega arith) λ x.
      read_limit (ltb n wide.classes) (ltb n tight.classes) at
      (λ e y q. after_inv _ _ q λ ms rest _ q.
      with_last _ (λ (cs : List Class). class_of x (fields wide (at + 1) rs).tree ms ∷ cs)
      (λ y. ClassesOver n at y at)
      (λ cs rest W. here (too_many_classes (omega (arith, ltb-false n tight.classes e)))) y q) λ _.
      go x (λ at rs. classes_cuts k (suc n) at rs) _ _ (fields_either (at + 1) rs)
    where
      tail : Most → Record → Read (List Field) → Checked (Read (List Class))
      tail most x fs = after (methods most (length rs) (at + 1 + length fs.tree) fs.rest) λ ms rest.
          after (classes most k (suc n) (at + class_lines (class_of x fs.tree ms)) rest) λ cs rest.
          accept (read (class_of x fs.tree ms ∷ cs) rest)

      go : (x : Record) → ((at : ℕ) (rs : List Row) → CutsRead (λ cs. at + classes_lines cs)
          (ClassesOver (suc n) at) (classes wide k (suc n) at rs) (classes tight k (suc n) at rs))
          → (fs gs : Read (List Field)) → Lines (at + 1) fs gs
          → CutsRead (λ cs. at + classes_lines cs) (ClassesOver n at) (tail wide x fs) (tail tight x gs)
      go x ih fs gs (inl e) =
          rw e (read-read (methods_cuts (length rs) (at + 1 + length gs.tree) gs.rest)
          (λ ms rest l h. with_last _ (λ (cs : List Class). class_of x gs.tree ms ∷ cs)
          (λ y. ClassesOver n at y l) λ cs rest W. later (on_left _
          (on_right (counted a_field (length (W.fields x.second)) gs.tree) (length gs.tree)
          (counted_length a_field (length (W.fields x.second)) gs.tree) h)))
          (λ ms rest. read_more (λ (cs : List Class). class_of x gs.tree ms ∷ cs) (λ cs. omega arith)
          (ih (at + class_lines (class_of x gs.tree ms)) rest) λ cs rest l h W.
          let c = class_of x gs.tree ms in
          on_right (class_uses W (suc n) c) (class_lines c) (class_length W (suc n) c) (h W))
          (λ r ms rest b. last_class r k (suc n) at (class_of x gs.tree ms) rest
          (subst (λ (m : ℕ). Blocked m rest) (omega arith) b)))
      go x ih fs gs (inr b) = class_blocked _ (length rs) k (suc n) at x gs b

  at_end_cuts : {Q : Program → ℕ → Type 0} (at : ℕ) (rs : List Row) (p : Program)
      → Cuts tight Q (at_end wide at rs p) (at_end tight at rs p)
  unfolding at_end
  at_end_cuts at [] p = same
  at_end_cuts at (r ∷ rs) p = next_cuts t names at (r ∷ rs) λ x rest. unsaid

  -- The end changes nothing of what was read.
  at_end_is : (at : ℕ) (rs : List Row) (p q : Program) → at_end wide at rs p ≡ accept q → p ≡ q
  unfolding at_end
  at_end_is at [] p q e = accept_injective e
  at_end_is at (r ∷ rs) p q e = next_inv wide at (r ∷ rs) _ e λ x rest _ e. absurd (accept≢refuse _ _ e)

  abbrev ProgramOver : Program → ℕ → Type 0
  ProgramOver p l = Excess tight 1 (program_uses p) l

  -- The pass over form reads the same program within tight limits, or refuses with 2 on a line that is over
  -- them, where it reads one within wide ones.
  pub form_cuts : (rs : List Row)
      → Cuts tight (λ p l. Excess tight 1 (program_uses p) l) (form wide rs) (form tight rs)
  unfolding form program_uses
  form_cuts rs = after_read (classes_cuts (length rs) 0 1 rs)
      (λ cs rest l h p q. next_inv wide _ rest _ q λ x rest _ q. require_inv _ _ _ _ q λ _ q.
      after_inv _ _ q λ e rest _ q.
      subst (λ p. ProgramOver p l) (at_end_is _ rest _ p q) (on_left _ (h (world cs))))
      (λ cs rest. next_cuts t names (1 + classes_lines cs) rest λ x rest.
      cuts_require (same_letter S_start x.letter) _ _ λ _.
      cuts_after (body_cuts t names 1 (1 + classes_lines cs + 1) rest)
      (λ e rest l h p q. subst (λ p. ProgramOver p l) (at_end_is _ rest _ p q)
      (on_right (classes_uses (world cs) 1 cs) (classes_lines cs) (classes_length (world cs) 1 cs) (later h)))
      λ e rest _.
      at_end_cuts (1 + classes_lines cs + 1 + size e) rest (record { classes = cs; start = e }))
      (λ cs rest b. next_blocked _ b)
