-- Laws of bracket pairs: a bracket has one other bracket, and pairs are nested.
use Rattle.std.proofs.Common.{◌≡◌, ℕ, suc, ◌<◌, inl, inr, List, length, slice_index, ap, ◌∙◌, sym, subst, arith}
use Rattle.std.proofs.lemmas.Bool.{cases_eq, cases_order}
use Rattle.pm_brackets.specs.declared.letters.TheConstants.{OPEN, CLOSE}
use Rattle.pm_brackets.specs.Word.{IsBracketPair, IsBracketing}
use Rattle.pm_brackets.proofs.Levels.{inside, seen_yes, seen_no, even_from_pair}

-- of two `)` after one `(`, the first closes it alone
no_later_closer : (places : List ℕ) (p q r : ℕ) → IsBracketPair places p q → IsBracketPair places p r → q < r → ⊥
no_later_closer places p q r a b l =
    let e = even_from_pair places p q a in
    let f = even_from_pair places p r b in
    let s = a.before in
    let x = a.closes in
    let m = f.below (suc q) (omega arith) (omega arith) in
    let c = seen_yes CLOSE places q (omega arith) x in
    let d = seen_no OPEN places q (λ h. omega arith) in
    omega (arith, e.equal, m, c, d)

no_later_opener : (places : List ℕ) (p q r : ℕ) → IsBracketPair places p q → IsBracketPair places r q → p < r → ⊥
no_later_opener places p q r a b l =
    let e = even_from_pair places p q a in
    let f = even_from_pair places r q b in
    let s = b.before in
    let x = b.opens in
    let m = e.below r (omega arith) (omega arith) in
    let c = seen_yes OPEN places r (omega arith) x in
    let d = seen_no CLOSE places r (λ h. omega arith) in
    omega (arith, e.equal, f.equal, m, c, d)

pub one_closer : (places : List ℕ) (p q r : ℕ) → IsBracketPair places p q → IsBracketPair places p r → q ≡ r
one_closer places p q r a b =
    elim (cases_order q r) [
      | inl e ↦ e
      | inr n ↦ elim n [ inl l ↦ absurd (no_later_closer places p q r a b l) | inr l ↦ absurd (no_later_closer places p r q b a l) ]
    ]

pub one_opener : (places : List ℕ) (p q r : ℕ) → IsBracketPair places p q → IsBracketPair places r q → p ≡ r
one_opener places p q r a b =
    elim (cases_order p r) [
      | inl e ↦ e
      | inr n ↦ elim n [ inl l ↦ absurd (no_later_opener places p q r a b l) | inr l ↦ absurd (no_later_opener places r q p b a l) ]
    ]

-- a pair that opens inside another closes inside it
pub opens_inside : (places : List ℕ) (p q r s : ℕ) → IsBracketPair places p q → IsBracketPair places r s → p < r → r < q → s < q
opens_inside places p q r s a b l m =
    elim (cases_order s q) [
      | inl e ↦ absurd (let P : ℕ → Type 0 = λ k. IsBracketPair places r k in no_later_opener places p q r a (subst P e b) l)
      | inr n ↦ elim n [
        | inl h ↦ h
        | inr h ↦
            let e = even_from_pair places p q a in
            let f = even_from_pair places r s b in
            let x = b.opens in
            let y = a.closes in
            let u = f.below (suc q) (omega arith) (omega arith) in
            let v = e.below r (omega arith) (omega arith) in
            let c = seen_yes OPEN places r (omega arith) x in
            let d = seen_no CLOSE places r (λ w. omega arith) in
            let g = seen_yes CLOSE places q (omega arith) y in
            let i = seen_no OPEN places q (λ w. omega arith) in
            absurd (omega (arith, e.equal, u, v, c, d, g, i))
      ]
    ]

-- a pair that closes inside another opens inside it
pub closes_inside : (places : List ℕ) (p q r s : ℕ) → IsBracketPair places p q → IsBracketPair places r s → p < s → s < q → p < r
closes_inside places p q r s a b l m =
    elim (cases_order p r) [
      | inl e ↦ absurd (let P : ℕ → Type 0 = λ k. IsBracketPair places k s in no_later_closer places p s q (subst P (sym e) b) a m)
      | inr n ↦ elim n [
        | inl h ↦ h
        | inr h ↦
            let t = b.before in
            let w = opens_inside places r s p q b a h l in
            absurd (omega arith)
      ]
    ]

-- the other bracket of the other bracket is the bracket itself
pub other_twice : (places other : List ℕ) (p : ℕ) → IsBracketing places other → p < length places → slice_index other (slice_index other p) ≡ p
other_twice places other p b l =
    elim (cases_eq (slice_index places p) OPEN) [
      | inl o ↦
          let a = b.of_open p o in
          sym (one_opener places p (slice_index other p) (slice_index other (slice_index other p)) a (b.of_close (slice_index other p) a.closes))
      | inr n ↦ elim (cases_eq (slice_index places p) CLOSE) [
        | inl c ↦
            let a = b.of_close p c in
            sym (one_closer places (slice_index other p) p (slice_index other (slice_index other p)) a (b.of_open (slice_index other p) a.opens))
        | inr m ↦ let e = b.of_letter p l n m in ap (slice_index other) e ∙ e
      ]
    ]

pub other_below : (places other : List ℕ) (p : ℕ) → IsBracketing places other → p < length places → slice_index other p < length places
other_below places other p b l =
    elim (cases_eq (slice_index places p) OPEN) [
      | inl o ↦ (let a = b.of_open p o in inside places (slice_index other p) CLOSE (omega arith) a.closes)
      | inr n ↦ elim (cases_eq (slice_index places p) CLOSE) [
        | inl c ↦ (let a = b.of_close p c in inside places (slice_index other p) OPEN (omega arith) a.opens)
        | inr m ↦ let e = b.of_letter p l n m in omega arith
      ]
    ]

-- so no two places have the same one across
pub across_one : (places other : List ℕ) (a b : ℕ) → IsBracketing places other → a < length places → b < length places → slice_index other a ≡ slice_index other b → a ≡ b
across_one places other a b bracketing l m same = sym (other_twice places other a bracketing l) ∙ ap (slice_index other) same ∙ other_twice places other b bracketing m
