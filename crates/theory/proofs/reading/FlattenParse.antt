-- What the form pass reads of an expression is what was written, is in form, and stands within the rows
-- allowed.
use mathlib.Core.Path.{◌≡◌, refl, sym, ap, ap₂, ◌∙◌, subst}
use Prim.Native.Nat.{ℕ, zero, suc, ◌+◌, ◌≤◌}
use mathlib.Core.Option.{none, some}
use mathlib.Core.Bool.{Bool, true, false, not, cond}
use mathlib.Core.List.{List, [], ◌∷◌, ◌++◌, map, append_assoc, map-append, map-map}
use lib.ListN.{length}
use lib.Dec.{eqb, leb}
use native.Mathlib.Omega.{arith}
use borrow.Author.Tests.{eqb-true, ltb-true, leb-true}
use Rattle.language.specs.Limits.{Most, largest, bool_number}
use Rattle.language.specs.Lists.{bind_option_inv, Never, inj}
use Rattle.language.specs.Results.{Checked, accept, refuse, bind_checked_inv, need_checked_inv, require_inv}
use Rattle.language.specs.Results.{accept_injective, accept≢refuse}
use Rattle.language.specs.Rows.{Letter, C_class, F_field, M_method, P_parameter, X_effect, S_start, B_block}
use Rattle.language.specs.Rows.{V_local, T_true, L_false, N_null, I_slot, Z_is_null, G_get, K_cast, W_new}
use Rattle.language.specs.Rows.{R_change, A_assign, U_set, Q_call, J_choose, Record, written, name_of}
use Rattle.language.specs.Rows.{same_letter, Row, row_of, letters, code, letter_among, most_at, well_made}
use Rattle.language.specs.Rows.{record_of}
use Rattle.language.specs.Tree.{DeclaredType, bool, class, type_number, type_of_number, Expr, Exprs, count}
use Rattle.language.specs.Tree.{size, sizes, flatten, flattens}
use Rattle.language.specs.Form.{Read, read, after, record_on, next, locals, several, node_of, node}
use Rattle.language.specs.WellFormed.{TypeInForm, Each, each_nil, each_cons, NodeInForm, NodesInForm}
use Rattle.language.specs.WellFormed.{form_literal, form_slot, form_is_null, form_get}
use Rattle.language.specs.WellFormed.{form_cast, form_new, form_change, form_assign, form_set, form_call}
use Rattle.language.specs.WellFormed.{form_choose, form_block, form_nil, form_cons}
use Rattle.language.proofs.Booleans.{false≢, and_inv}
use Rattle.language.proofs.Letters.{among_code, code_injective}
use Rattle.theory.proofs.reading.RowCounts.{local_row}

pub after_inv : {A B C : Type 0} (r : Checked (Read A)) (k : A → List Row → Checked B) {b : B}
    → after r k ≡ accept b → ((a : A) (rs : List Row) → r ≡ accept (read a rs) → k a rs ≡ accept b → C) → C
unfolding after
after_inv (accept x) k e f = f x.tree x.rest refl e
after_inv (refuse n l) k e f = absurd (accept≢refuse n l e)

pub cond_some : {A : Type 0} (b : Bool) (x y : A) → cond b (some x) none ≡ some y → (b ≡ true) × (x ≡ y)
cond_some true x y e = (refl, inj e)
cond_some false x y e = absurd (Never e)

-- A letter is known by its code.
pub letter_is : (l m : Letter) → same_letter l m ≡ true → l ≡ m
letter_is l m e = code_injective l m (eqb-true (code l) (code m) e)

-- The row of a record, with numbers as large as its letter allows.
record Made (r : Row) (x : Record) : Type 0 where
  is : r ≡ row_of x
  first : x.first ≤ most_at 1 x.letter
  second : x.second ≤ most_at 2 x.letter

third : (l : Letter) → most_at 3 l ≡ 0
third C_class = refl
third F_field = refl
third M_method = refl
third P_parameter = refl
third X_effect = refl
third S_start = refl
third B_block = refl
third V_local = refl
third T_true = refl
third L_false = refl
third N_null = refl
third I_slot = refl
third Z_is_null = refl
third G_get = refl
third K_cast = refl
third W_new = refl
third R_change = refl
third A_assign = refl
third U_set = refl
third Q_call = refl
third J_choose = refl

record_made : (r : Row) (x : Record) → record_of r ≡ some x → Made r x
unfolding record_of
record_made r x e = bind_option_inv (letter_among letters r.letter_code) _ e λ l p q.
    let c = cond_some (well_made l r) (written l r.first r.second) x q in
    let w = and_inv (leb r.first (most_at 1 l)) _ c.0 in
    let v = and_inv (leb r.second (most_at 2 l)) _ w.1 in
    let z : r.third ≡ 0 = omega (arith, leb-true r.third (most_at 3 l) v.1, third l) in
    subst (Made r) c.1 (record {
      is = λ i. record {
        letter_code = sym (among_code letters r.letter_code l p) i;
        first = r.first;
        second = r.second;
        third = z i;
      };
      first = leb-true _ _ w.0;
      second = leb-true _ _ v.0;
    })

pub zero_is : (n : ℕ) → n ≤ 0 → n ≡ 0
zero_is n l = omega arith

-- A number is the number of its type, and the type of a number is in form.
pub number_back : (n : ℕ) → type_number (type_of_number n) ≡ n
number_back n = go (eqb n bool_number) refl
  where
    go : (b : Bool) → eqb n bool_number ≡ b → type_number (cond b bool (class n)) ≡ n
    go true e = sym (eqb-true n bool_number e)
    go false e = refl

pub type_in_form : (n : ℕ) → n ≤ largest → TypeInForm (type_of_number n)
type_in_form n l = record {
  small = subst (λ (k : ℕ). k ≤ largest) (sym (number_back n)) l;
  back = ap type_of_number (number_back n);
}

module _ (most : Most) where
  -- The record that stands first: its row, its numbers and its name within the limits, its line too.
  pub record Taken (at : ℕ) (rs : List Row) (x : Record) (rest : List Row) : Type 0 where
    pub is : rs ≡ row_of x ∷ rest
    pub first : x.first ≤ most_at 1 x.letter
    pub second : x.second ≤ most_at 2 x.letter
    pub name : name_of x.letter x.first x.second ≤ most.name
    pub line : at ≤ most.rows

  pub record_on_taken : (at : ℕ) (r : Row) (rs : List Row) (x : Record) → record_on most at r ≡ accept x
      → Taken at (r ∷ rs) x rs
  unfolding record_on
  record_on_taken at r rs x e = need_checked_inv _ _ _ _ e λ y p₁ e.
      require_inv _ _ _ _ e λ p₂ e. require_inv _ _ _ _ e λ p₃ e.
      let m = record_made r y p₁ in
      subst (λ (x : Record). Taken at (r ∷ rs) x rs) (accept_injective e) (record {
        is = ap (λ (z : Row). z ∷ rs) m.is;
        first = m.first;
        second = m.second;
        name = leb-true _ _ p₃;
        line = leb-true _ _ p₂;
      })

  pub next_inv : {B C : Type 0} (at : ℕ) (rs : List Row) (k : Record → List Row → Checked B) {b : B}
      → next most at rs k ≡ accept b
      → ((x : Record) (rest : List Row) → Taken at rs x rest → k x rest ≡ accept b → C) → C
  unfolding next
  next_inv at [] k e f = absurd (accept≢refuse _ _ e)
  next_inv at (r ∷ rs) k e f = bind_checked_inv _ _ e λ x p q. f x rs (record_on_taken at r rs x p) q

  pub of_letter : (l : Letter) {at : ℕ} {rs rest : List Row} {x : Record} → l ≡ x.letter → Taken at rs x rest
      → Taken at rs (written l x.first x.second) rest
  of_letter l {at} {rs} {rest} {x} p t =
      subst (λ (l : Letter). Taken at rs (written l x.first x.second) rest) (sym p) t

  -- Lines of one letter, as long as they came: their rows, each in form, and where they end.
  pub record LinesRead {A : Type 0} (row : A → Row) (R : A → Type 0) (at : ℕ) (rs : List Row)
      (x : Read (List A)) :
      Type 0 where
    pub is : rs ≡ map row x.tree ++ x.rest
    pub formed : Each R x.tree
    pub lines : at ≤ suc most.rows → at + length x.tree ≤ suc most.rows

  module _ {A : Type 0} {row : A → Row} {R : A → Type 0} where
    pub lines_none : (at : ℕ) (rs : List Row) → LinesRead row R at rs (read [] rs)
    lines_none at rs = record { is = refl; formed = each_nil; lines = λ l. omega arith }

    pub lines_one : (at : ℕ) (rs : List Row) (r : Row) (rest : List Row) (a : A) (x : Read (List A))
        → at ≤ most.rows
        → rs ≡ r ∷ rest → r ≡ row a → R a → LinesRead row R (at + 1) rest x
        → LinesRead row R at rs (read (a ∷ x.tree) x.rest)
    lines_one at rs r rest a x l e f i h = record {
      is = e ∙ ap₂ (λ (r : Row) (l : List Row). r ∷ l) f h.is;
      formed = each_cons i h.formed;
      lines = λ _. omega (arith, h.lines (omega arith));
    }

  -- A node that was read.
  pub record NodeRead (d n at : ℕ) (rs : List Row) (x : Read Expr) : Type 0 where
    pub is : rs ≡ map row_of (flatten x.tree) ++ x.rest
    pub formed : NodeInForm most d n x.tree
    pub lines : at + size x.tree ≤ suc most.rows

  -- So many nodes that were read.
  record NodesRead (d n at k : ℕ) (rs : List Row) (x : Read Exprs) : Type 0 where
    is : rs ≡ map row_of (flattens x.tree) ++ x.rest
    formed : NodesInForm most d n x.tree
    many : count x.tree ≡ k
    lines : at ≤ suc most.rows → at + sizes x.tree ≤ suc most.rows

  several_back : (d n : ℕ) (nd : ℕ → List Row → Checked (Read Expr))
      → ((at : ℕ) (rs : List Row) (x : Read Expr) → nd at rs ≡ accept x → NodeRead d n at rs x)
      → (k at : ℕ) (rs : List Row) (x : Read Exprs) → several nd k at rs ≡ accept x → NodesRead d n at k rs x
  unfolding several flatten count size
  several_back d n nd ih zero at rs x e = subst (NodesRead d n at 0 rs) (accept_injective e)
      (record { is = refl; formed = form_nil; many = refl; lines = λ l. omega arith })
  several_back d n nd ih (suc k) at rs x e = after_inv _ _ e λ a rs₁ e₁ e. after_inv _ _ e λ bs rs₂ e₂ e.
      let g = ih at rs (read a rs₁) e₁ in
      let h = several_back d n nd ih k (at + size a) rs₁ (read bs rs₂) e₂ in
      subst (NodesRead d n at (suc k) rs) (accept_injective e) (record {
        is = g.is ∙ (ap (λ r. map row_of (flatten a) ++ r) h.is
            ∙ rw (
              map-append row_of (flatten a) (flattens bs),
              append_assoc (map row_of (flatten a)) (map row_of (flattens bs)) rs₂,
            ));
        formed = form_cons g.formed h.formed;
        many = ap suc h.many;
        lines = λ _. omega (arith, h.lines g.lines);
      })

  -- V lines that were read: so many, and no slot too many.
  pub record LocalsRead (v n at : ℕ) (rs : List Row) (x : Read (List DeclaredType)) : Type 0 where
    read_lines : LinesRead local_row TypeInForm at rs x
    pub many : length x.tree ≡ v
    few : n ≤ most.slots → n + length x.tree ≤ most.slots

  pub locals_back : (v n at : ℕ) (rs : List Row) (x : Read (List DeclaredType))
      → locals most v n at rs ≡ accept x
      → LocalsRead v n at rs x
  unfolding locals
  locals_back zero n at rs x e = subst (LocalsRead 0 n at rs) (accept_injective e)
      (record { read_lines = lines_none at rs; many = refl; few = λ l. omega arith })
  locals_back (suc v) n at rs x e = next_inv at rs _ e λ r rest t e.
      require_inv _ _ _ _ e λ e₁ e. require_inv _ _ _ _ e λ e₂ e. after_inv _ _ e λ ts rs₁ e₃ e.
      let h = locals_back v (suc n) (at + 1) rest (read ts rs₁) e₃ in
      let v-line = of_letter V_local (letter_is V_local r.letter e₁) t in
      let s = ltb-true n most.slots e₂ in
      subst (LocalsRead (suc v) n at rs) (accept_injective e) (record {
        read_lines = lines_one at rs (row_of (written V_local r.first r.second)) rest
            (type_of_number r.first) (read ts rs₁) t.line v-line.is
            (ap₂ (λ (a b : ℕ). row_of (written V_local a b)) (sym (number_back r.first))
            (zero_is r.second v-line.second))
            (type_in_form r.first v-line.first) h.read_lines;
        many = ap suc h.many;
        few = λ _. omega (arith, h.few (omega arith));
      })

  module _ (d : ℕ) (nd : ℕ → ℕ → List Row → Checked (Read Expr))
      (ih : (n at : ℕ) (rs : List Row) (x : Read Expr) → n ≤ most.slots → nd n at rs ≡ accept x
      → NodeRead d n at rs x)
    where
      node-of-back : (l : Letter) (a b n at : ℕ) (rs : List Row) (x : Read Expr) → n ≤ most.slots
          → a ≤ most_at 1 l → b ≤ most_at 2 l → name_of l a b ≤ most.name → at ≤ most.rows
          → node_of most nd l a b n at rs ≡ accept x → NodeRead (suc d) n at (row_of (written l a b) ∷ rs) x
      unfolding node_of flatten count size
      node-of-back C_class a b n at rs x s p q m l e = absurd (accept≢refuse _ _ e)
      node-of-back F_field a b n at rs x s p q m l e = absurd (accept≢refuse _ _ e)
      node-of-back M_method a b n at rs x s p q m l e = absurd (accept≢refuse _ _ e)
      node-of-back P_parameter a b n at rs x s p q m l e = absurd (accept≢refuse _ _ e)
      node-of-back X_effect a b n at rs x s p q m l e = absurd (accept≢refuse _ _ e)
      node-of-back S_start a b n at rs x s p q m l e = absurd (accept≢refuse _ _ e)
      node-of-back V_local a b n at rs x s p q m l e = absurd (accept≢refuse _ _ e)
      node-of-back T_true a b n at rs x s p q m l e = subst (NodeRead _ _ _ _) (accept_injective e)
          (record { is = rw (zero_is a p, zero_is b q); formed = form_literal; lines = omega arith })
      node-of-back L_false a b n at rs x s p q m l e = subst (NodeRead _ _ _ _) (accept_injective e)
          (record { is = rw (zero_is a p, zero_is b q); formed = form_literal; lines = omega arith })
      node-of-back N_null a b n at rs x s p q m l e = subst (NodeRead _ _ _ _) (accept_injective e)
          (record { is = rw (zero_is a p, zero_is b q); formed = form_literal; lines = omega arith })
      node-of-back I_slot a b n at rs x s p q m l e = subst (NodeRead _ _ _ _) (accept_injective e)
          (record { is = rw (zero_is b q); formed = form_slot p; lines = omega arith })
      node-of-back Z_is_null a b n at rs x s p q m l e = after_inv _ _ e λ c rs₁ e₁ e.
          let h = ih n (at + 1) rs (read c rs₁) s e₁ in
          subst (NodeRead _ _ _ _) (accept_injective e) (record {
            is = rw (zero_is a p, zero_is b q) (ap (λ r. row_of (written Z_is_null 0 0) ∷ r) h.is);
            formed = form_is_null h.formed;
            lines = omega (arith, h.lines);
          })
      node-of-back G_get a b n at rs x s p q m l e = after_inv _ _ e λ c rs₁ e₁ e.
          let h = ih n (at + 1) rs (read c rs₁) s e₁ in
          subst (NodeRead _ _ _ _) (accept_injective e) (record {
            is = rw (zero_is b q) (ap (λ r. row_of (written G_get a 0) ∷ r) h.is);
            formed = form_get m h.formed;
            lines = omega (arith, h.lines);
          })
      node-of-back K_cast a b n at rs x s p q m l e = after_inv _ _ e λ c rs₁ e₁ e.
          let h = ih n (at + 1) rs (read c rs₁) s e₁ in
          subst (NodeRead _ _ _ _) (accept_injective e) (record {
            is = rw (zero_is b q) (ap (λ r. row_of (written K_cast a 0) ∷ r) h.is);
            formed = form_cast p h.formed;
            lines = omega (arith, h.lines);
          })
      node-of-back W_new a b n at rs x s p q m l e = subst (NodeRead _ _ _ _) (accept_injective e)
          (record { is = rw (zero_is b q); formed = form_new p; lines = omega arith })
      node-of-back R_change a b n at rs x s p q m l e = subst (NodeRead _ _ _ _) (accept_injective e)
          (record { is = refl; formed = form_change p q; lines = omega arith })
      node-of-back A_assign a b n at rs x s p q m l e = after_inv _ _ e λ c rs₁ e₁ e.
          let h = ih n (at + 1) rs (read c rs₁) s e₁ in
          subst (NodeRead _ _ _ _) (accept_injective e) (record {
            is = rw (zero_is b q) (ap (λ r. row_of (written A_assign a 0) ∷ r) h.is);
            formed = form_assign p h.formed;
            lines = omega (arith, h.lines);
          })
      node-of-back U_set a b n at rs x s p q m l e = after_inv _ _ e λ c rs₁ e₁ e.
          after_inv _ _ e λ c' rs₂ e₂ e.
          let h = ih n (at + 1) rs (read c rs₁) s e₁ in
          let h' = ih n (at + 1 + size c) rs₁ (read c' rs₂) s e₂ in
          subst (NodeRead _ _ _ _) (accept_injective e) (record {
            is = rw (zero_is b q) (ap (λ r. row_of (written U_set a 0) ∷ r)
                (h.is ∙ (ap (λ r. map row_of (flatten c) ++ r) h'.is
                ∙ rw (
                  map-append row_of (flatten c) (flatten c'),
                  append_assoc (map row_of (flatten c)) (map row_of (flatten c')) rs₂,
                ))));
            formed = form_set m h.formed h'.formed;
            lines = omega (arith, h'.lines);
          })
      node-of-back Q_call a b n at rs x s p q m l e = after_inv _ _ e λ c rs₁ e₁ e.
          after_inv _ _ e λ cs rs₂ e₂ e.
          let h = ih n (at + 1) rs (read c rs₁) s e₁ in
          let g = several_back d n (λ at rs. nd n at rs) (λ at rs x e. ih n at rs x s e) b (at + 1 + size c)
          rs₁
          (read cs rs₂) e₂ in
          subst (NodeRead _ _ _ _) (accept_injective e) (record {
            is = rw (← g.many) (ap (λ r. row_of (written Q_call a (count cs)) ∷ r)
                (h.is ∙ (ap (λ r. map row_of (flatten c) ++ r) g.is
                ∙ rw (
                  map-append row_of (flatten c) (flattens cs),
                  append_assoc (map row_of (flatten c)) (map row_of (flattens cs)) rs₂,
                ))));
            formed = form_call m (omega (arith, g.many)) h.formed g.formed;
            lines = omega (arith, g.lines h.lines);
          })
      node-of-back J_choose a b n at rs x s p q m l e =
          after_inv _ _ e λ c rs₁ e₁ e. after_inv _ _ e λ c' rs₂ e₂ e. after_inv _ _ e λ c'' rs₃ e₃ e.
          let h = ih n (at + 1) rs (read c rs₁) s e₁ in
          let h' = ih n (at + 1 + size c) rs₁ (read c' rs₂) s e₂ in
          let h'' = ih n (at + 1 + size c + size c') rs₂ (read c'' rs₃) s e₃ in
          subst (NodeRead _ _ _ _) (accept_injective e) (record {
            is = rw (zero_is a p, zero_is b q) (ap (λ r. row_of (written J_choose 0 0) ∷ r)
                (h.is ∙ (ap (λ r. map row_of (flatten c) ++ r)
                (h'.is ∙ ap (λ r. map row_of (flatten c') ++ r) h''.is)
                ∙ rw (
                  map-append row_of (flatten c) (flatten c' ++ flatten c''),
                  map-append row_of (flatten c') (flatten c''),
                  append_assoc (map row_of (flatten c)) (map row_of (flatten c') ++ map row_of (flatten c''))
                      rs₃,
                  append_assoc (map row_of (flatten c')) (map row_of (flatten c'')) rs₃,
                ))));
            formed = form_choose h.formed h'.formed h''.formed;
            lines = omega (arith, h''.lines);
          })
      node-of-back B_block a b n at rs x s p q m l e =
          require_inv _ _ _ _ e λ e₀ e. after_inv _ _ e λ ts rs₁ e₁ e. after_inv _ _ e λ cs rs₂ e₂ e.
          let g = locals_back a n (at + 1) rs (read ts rs₁) e₁ in
          let k : n + a ≤ most.slots = omega (arith, g.few s, g.many) in
          let h = several_back d (n + a) (λ at rs. nd (n + a) at rs) (λ at rs x e. ih (n + a) at rs x k e) b
          (at + 1 + a) rs₁ (read cs rs₂) e₂ in
          subst (NodeRead _ _ _ _) (accept_injective e) (record {
            is = rw (← h.many, ← g.many) (ap (λ r. row_of (written B_block (length ts) (count cs)) ∷ r)
                (g.read_lines.is ∙ (ap (λ r. map local_row ts ++ r) h.is
                ∙ rw (
                  map-append row_of (map (λ t. written V_local (type_number t) 0) ts) (flattens cs),
                  map-map row_of (λ t. written V_local (type_number t) 0) ts,
                  append_assoc (map local_row ts) (map row_of (flattens cs)) rs₂,
                ))));
            formed = form_block (g.few s) (omega (arith, h.many, positive b e₀)) (omega (arith, h.many))
                g.read_lines.formed
                (subst (λ (j : ℕ). NodesInForm most d (n + j) cs) (sym g.many) h.formed);
            lines = omega (
              arith,
              g.many,
              h.lines (omega
                  (arith, g.read_lines.lines (omega arith), g.many)),
            );
          })
        where
          positive : (b : ℕ) → not (eqb b 0) ≡ true → 1 ≤ b
          positive zero e = false≢ e
          positive (suc b) e = omega arith

  pub node_back : (d n at : ℕ) (rs : List Row) (x : Read Expr) → n ≤ most.slots
      → node most d n at rs ≡ accept x
      → NodeRead d n at rs x
  unfolding node
  node_back zero n at rs x s e = next_inv at rs _ e λ r rest t e. require_inv _ _ _ _ e λ q e.
      absurd (accept≢refuse _ _ e)
  node_back (suc d) n at rs x s e = next_inv at rs _ e λ r rest t e.
      subst (λ (rs : List Row). NodeRead (suc d) n at rs x) (sym t.is)
      (node-of-back d (λ n at rs. node most d n at rs) (λ n at rs x s e. node_back d n at rs x s e)
      r.letter r.first r.second n at rest x s t.first t.second t.name t.line e)
