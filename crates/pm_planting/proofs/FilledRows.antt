-- Bud patterns with their slots filled by rows of one letter.
use Rattle.std.proofs.Common.{◌≡◌, ℕ, suc, ◌+◌, ◌≤◌, ◌==◌, inl, inr, List, [], ◌∷◌, ◌++◌, length, refl, ap, sym, subst, arith, eq-eqb, ne_eqb}
use Rattle.std.proofs.lemmas.Bool.{cases_eq}
use Rattle.std.proofs.lemmas.List.Sums.{count_by-le-length}
use Rattle.pm_trees.specs.declared.letters.TheConstants.{BUD}
use Rattle.pm_trees.specs.BudPattern.{IsPattern}
use Rattle.pm_brackets.proofs.Tally.{tally, tally_is, tally-nil, tally_yes, tally_no}
use Rattle.pm_planting.specs.Kinds.{filled}
use Rattle.pm_planting.proofs.Rows.{IsRow, row_nil, row_bud, row_join}
use Rattle.pm_planting.proofs.RootRows.{IsRootRow}

-- each of the texts is a row of one letter, and these are the half degrees of all their objects
pub data AreRows : List ℕ → List (List ℕ) → Type 0 where
  no_rows : AreRows [] []
  one_row : (halves others text : List ℕ) (texts : List (List ℕ)) → IsRow 1 0 halves text → AreRows others texts → AreRows (halves ++ others) (text ∷ texts)

pub filled_bud : (x : ℕ) (pattern : List ℕ) (texts : List (List ℕ)) → x ≡ BUD → filled (x ∷ pattern) texts ≡ BUD ∷ filled pattern texts
filled_bud x pattern [] e = rw (eq-eqb x BUD e) refl
filled_bud x pattern (text ∷ texts) e = rw (eq-eqb x BUD e) refl

pub filled_slot : (x : ℕ) (pattern text : List ℕ) (texts : List (List ℕ)) → (x ≡ BUD → ⊥) → filled (x ∷ pattern) (text ∷ texts) ≡ text ++ filled pattern texts
filled_slot x pattern text texts n = rw (ne_eqb x BUD n) refl

tally_few : (letter : ℕ) (xs : List ℕ) → tally letter xs ≤ length xs
tally_few letter xs = let a = tally_is letter xs in let b = count_by-le-length (λ x. x == letter) xs in omega (arith, a, b)

same_row : (entries buds others_entries others_buds : ℕ) (halves row other : List ℕ) → entries ≡ others_entries → buds ≡ others_buds → row ≡ other → IsRow entries buds halves row → IsRow others_entries others_buds halves other
same_row entries buds others_entries others_buds halves row other e b r h =
    subst (λ (n : ℕ). IsRow n others_buds halves other) e
    (subst (λ (n : ℕ). IsRow entries n halves other) b (subst (IsRow entries buds halves) r h))

-- a pattern whose first entry is a slot
slot_row : (x : ℕ) (pattern halves : List ℕ) (texts : List (List ℕ)) → (x ≡ BUD → ⊥) → length texts + tally BUD (x ∷ pattern) ≡ length (x ∷ pattern) → AreRows halves texts
    → ((others : List ℕ) (later : List (List ℕ)) → length later + tally BUD pattern ≡ length pattern → AreRows others later → IsRow (length pattern) (tally BUD pattern) others (filled pattern later))
    → IsRow (length (x ∷ pattern)) (tally BUD (x ∷ pattern)) halves (filled (x ∷ pattern) texts)
slot_row x pattern _ _ n e no_rows rest =
    absurd (
    let t = tally_no BUD x pattern n in
    let f = tally_few BUD pattern in
    omega (arith, t, f, e)
    )
slot_row x pattern _ _ n e (one_row halves others text texts h k) rest =
    let t = tally_no BUD x pattern n in
    let r = rest others texts (omega (arith, t, e)) k in
    same_row (1 + length pattern) (0 + tally BUD pattern) (length (x ∷ pattern)) (tally BUD (x ∷ pattern)) (halves ++ others) (text ++ filled pattern texts) (filled (x ∷ pattern) (text ∷ texts))
    (omega arith) (omega (arith, t)) (sym (filled_slot x pattern text texts n))
    (row_join 1 0 (length pattern) (tally BUD pattern) halves others text (filled pattern texts) h r)

-- the entries of a node whose children have these texts
pub filled_row : (pattern halves : List ℕ) (texts : List (List ℕ)) → length texts + tally BUD pattern ≡ length pattern → AreRows halves texts → IsRow (length pattern) (tally BUD pattern) halves (filled pattern texts)
filled_row [] _ _ e no_rows = let b = tally-nil BUD in same_row 0 0 0 (tally BUD []) [] [] [] refl (sym b) refl row_nil
filled_row [] _ _ e (one_row halves others text texts h k) = absurd (omega arith)
filled_row (x ∷ pattern) halves texts e rows =
    elim (cases_eq x BUD) [
      | inl bud ↦
          let t = tally_yes BUD x pattern bud in
          let r = filled_row pattern halves texts (omega (arith, t, e)) rows in
          same_row (1 + length pattern) (1 + tally BUD pattern) (length (x ∷ pattern)) (tally BUD (x ∷ pattern)) halves (BUD ∷ filled pattern texts) (filled (x ∷ pattern) texts)
          (omega arith) (omega (arith, t)) (sym (filled_bud x pattern texts bud))
          (row_join 1 1 (length pattern) (tally BUD pattern) [] halves (BUD ∷ []) (filled pattern texts) row_bud r)
      | inr slot ↦ slot_row x pattern halves texts slot e rows (λ others later f k. filled_row pattern others later f k)
    ]

-- the row of a node whose children have these texts
pub node_row : (half : ℕ) (pattern halves : List ℕ) (sides : List (List ℕ)) → IsPattern half pattern → length sides ≡ half → AreRows halves sides → IsRootRow (half ∷ halves) (filled pattern sides)
node_row half pattern halves sides p e rows =
    let t = tally_is BUD pattern in
    let l = p.as_long in
    let b = p.budded in
    let same : half ≡ suc (tally BUD pattern) = omega (arith, t, b) in
    record {
      entries = length pattern;
      buds = tally BUD pattern;
      below = halves;
      as_many = omega (arith, t, l, b);
      halves_are = ap (λ (n : ℕ). n ∷ halves) same;
      row = filled_row pattern halves sides (omega (arith, t, l, b, e)) rows;
    }
