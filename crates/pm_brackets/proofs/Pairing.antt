-- The list of the other brackets as it grows.
use Rattle.std.proofs.Common.{◌≡◌, ℕ, suc, ◌<◌, inl, inr, List, [], ◌∷◌, ◌++◌, length, reverse, slice_index, get_or, set, Option, Some, option_to_list, refl, ap, ◌∙◌, sym, subst, arith}
use Rattle.std.proofs.lemmas.Bool.{cases_lt}
use Rattle.std.proofs.lemmas.List.{nil_from_length, length-set, length_push, get_or_append_left, get_or_push, get_or-set_same, get_or-set_other}
use Rattle.pm_brackets.specs.declared.letters.TheConstants.{OPEN, CLOSE}
use Rattle.pm_brackets.specs.Word.{IsMatched, IsBracketing}
use Rattle.pm_brackets.specs.Word.{IsOther}
use Rattle.pm_brackets.proofs.Levels.{inside}
use Rattle.pm_brackets.proofs.NodeWalk.{reverse_push}
use Rattle.pm_brackets.proofs.Stack.{IsRead, IsKept, IsKeptBut, read_start, read_open, read_close, read_other, close_has_opener, none_open_at_end}

abbrev at : List ℕ → ℕ → ℕ
at other k = get_or other k 0

pub record IsPairing (plant : ℕ) (word other open_places : List ℕ) (i : ℕ) : Type 0 where
  pub read : IsRead (plant ∷ word) (λ k. get_or other k 0) (reverse open_places) (suc i)
  pub as_long : length other ≡ suc i

pub pairing_start : (plant : ℕ) → IsOther plant → (word other open_places : List ℕ) → other ≡ 0 ∷ [] → open_places ≡ [] → IsPairing plant word other open_places 0
pairing_start plant bare word other open_places e f =
    let P : List ℕ → Type 0 = λ xs. IsPairing plant word xs open_places 0 in
    let Q : List ℕ → Type 0 = λ xs. IsPairing plant word (0 ∷ []) xs 0 in
    subst P (sym e) (subst Q (sym f) (record {
      read = read_start (plant ∷ word) (λ k. get_or (0 ∷ []) k 0) bare refl;
      as_long = refl;
    }))

kept_push : (other : List ℕ) (x i : ℕ) → length other ≡ i → IsKept (λ k. get_or other k 0) (λ k. get_or (other ++ x ∷ []) k 0) i
kept_push other x i e = record { same = λ k l. get_or_append_left other (x ∷ []) 0 k (omega arith) }

kept_pair : (other : List ℕ) (s i : ℕ) → length other ≡ i → s < i → IsKeptBut (λ k. get_or other k 0) (λ k. get_or (set other s i ++ s ∷ []) k 0) s i
kept_pair other s i e l =
    let m = length-set other s i in
    record {
      same = λ k h n. get_or_append_left (set other s i) (s ∷ []) 0 k (omega (arith, m)) ∙ get_or-set_other other s k i 0 n;
      here = get_or_append_left (set other s i) (s ∷ []) 0 s (omega (arith, m)) ∙ get_or-set_same other s i 0 (omega arith);
      there = get_or_push (set other s i) s 0 i (m ∙ e);
    }

pairing_at : (plant : ℕ) (word other other' open_places open_places' : List ℕ) (i j : ℕ) → other' ≡ other → open_places' ≡ open_places → j ≡ i → IsPairing plant word other open_places i → IsPairing plant word other' open_places' j
pairing_at plant word other other' open_places open_places' i j e f g p =
    let P : List ℕ → Type 0 = λ xs. IsPairing plant word xs open_places i in
    let Q : List ℕ → Type 0 = λ xs. IsPairing plant word other' xs i in
    let R : ℕ → Type 0 = λ k. IsPairing plant word other' open_places' k in
    subst R (sym g) (subst Q (sym f) (subst P (sym e) p))

pub pairing_other : (plant : ℕ) (word other other' open_places open_places' : List ℕ) (i j x : ℕ) → IsOther (slice_index word i) → other' ≡ other ++ x ∷ [] → open_places' ≡ open_places → x ≡ suc i → j ≡ suc i → IsPairing plant word other open_places i → IsPairing plant word other' open_places' j
pairing_other plant word other other' open_places open_places' i j x o e f g h p =
    pairing_at plant word (other ++ x ∷ []) other' open_places open_places' (suc i) j e f h (record {
      read = read_other (plant ∷ word) (λ k. get_or other k 0) (λ k. get_or (other ++ x ∷ []) k 0) (reverse open_places) (suc i) o (kept_push other x (suc i) p.as_long) (get_or_push other x 0 (suc i) p.as_long ∙ g) p.read;
      as_long = let l = length_push other x in let m = p.as_long in omega (arith, l, m);
    })

pub pairing_open : (plant : ℕ) (word other other' open_places open_places' : List ℕ) (i j x : ℕ) → slice_index word i ≡ OPEN → other' ≡ other ++ x ∷ [] → open_places' ≡ open_places ++ x ∷ [] → x ≡ suc i → j ≡ suc i → IsPairing plant word other open_places i → IsPairing plant word other' open_places' j
pairing_open plant word other other' open_places open_places' i j x o e f g h p =
    let a : suc i ∷ reverse open_places ≡ reverse (open_places ++ x ∷ []) = ap (λ (q : ℕ). q ∷ reverse open_places) (sym g) ∙ sym (reverse_push open_places x) in
    let S : List ℕ → Type 0 = λ xs. IsRead (plant ∷ word) (λ k. get_or (other ++ x ∷ []) k 0) xs (suc (suc i)) in
    pairing_at plant word (other ++ x ∷ []) other' (open_places ++ x ∷ []) open_places' (suc i) j e f h (record {
      read = subst S a (read_open (plant ∷ word) (λ k. get_or other k 0) (λ k. get_or (other ++ x ∷ []) k 0) (reverse open_places) (suc i) o (kept_push other x (suc i) p.as_long) p.read);
      as_long = let l = length_push other x in let m = p.as_long in omega (arith, l, m);
    })

-- what a pop gives
top_read : (plant : ℕ) (word other xs ys : List ℕ) (r : Option ℕ) (s i : ℕ) → xs ≡ ys ++ option_to_list r → r ≡ Some s → IsPairing plant word other xs i → IsRead (plant ∷ word) (λ k. get_or other k 0) (s ∷ reverse ys) (suc i)
top_read plant word other xs ys r s i e f p =
    let a : xs ≡ ys ++ s ∷ [] = e ∙ ap (λ (t : Option ℕ). ys ++ option_to_list t) f in
    let g : reverse xs ≡ s ∷ reverse ys = ap reverse a ∙ reverse_push ys s in
    let P : List ℕ → Type 0 = λ zs. IsRead (plant ∷ word) (λ k. get_or other k 0) zs (suc i) in
    subst P g p.read

pub opener_within : (plant : ℕ) (word other xs ys : List ℕ) (r : Option ℕ) (s i : ℕ) → xs ≡ ys ++ option_to_list r → r ≡ Some s → IsPairing plant word other xs i → s < length other
opener_within plant word other xs ys r s i e f p =
    let a = (top_read plant word other xs ys r s i e f p).chain.0.before in
    let m = p.as_long in
    omega (arith, a, m)

pub pairing_close : (plant : ℕ) (word other other' xs ys : List ℕ) (r : Option ℕ) (s i j x : ℕ) → slice_index word i ≡ CLOSE → xs ≡ ys ++ option_to_list r → r ≡ Some s → other' ≡ set other s x ++ s ∷ [] → x ≡ suc i → j ≡ suc i → IsPairing plant word other xs i → IsPairing plant word other' ys j
pairing_close plant word other other' xs ys r s i j x o e f g h k p =
    let a = top_read plant word other xs ys r s i e f p in
    let b : other' ≡ set other s (suc i) ++ s ∷ [] = g ∙ ap (λ (q : ℕ). set other s q ++ s ∷ []) h in
    pairing_at plant word (set other s (suc i) ++ s ∷ []) other' ys ys (suc i) j b refl k (record {
      read = read_close (plant ∷ word) (λ k. get_or other k 0) (λ k. get_or (set other s (suc i) ++ s ∷ []) k 0) (reverse ys) s (suc i) o (kept_pair other s (suc i) p.as_long a.chain.0.before) a;
      as_long = let l = length_push (set other s (suc i)) s in let n = length-set other s (suc i) in let m = p.as_long in omega (arith, l, n, m);
    })

pub opener_is_there : (plant : ℕ) → IsOther plant → (word other xs : List ℕ) (i : ℕ) → IsMatched word → slice_index word i ≡ CLOSE → IsPairing plant word other xs i → 0 < length xs
opener_is_there plant bare word other xs i m o p =
    elim (cases_lt 0 (length xs)) [
      | inl l ↦ l
      | inr g ↦
          let e : xs ≡ [] = nil_from_length xs (omega arith) in
          let P : List ℕ → Type 0 = λ zs. IsRead (plant ∷ word) (λ k. get_or other k 0) (reverse zs) (suc i) in
          absurd (close_has_opener plant bare word i m o (subst P e p.read).chain)
    ]

pub pairing_end : (plant : ℕ) → IsOther plant → (word other xs : List ℕ) (i : ℕ) → i ≡ length word → IsMatched word → IsPairing plant word other xs i → IsBracketing (plant ∷ word) other
pairing_end plant bare word other xs i e m p =
    let P : ℕ → Type 0 = λ k. IsRead (plant ∷ word) (λ j. get_or other j 0) (reverse xs) (suc k) in
    let r : IsRead (plant ∷ word) (λ j. get_or other j 0) (reverse xs) (suc (length word)) = subst P e p.read in
    let n = none_open_at_end plant bare word (reverse xs) m r.chain in
    let Q : List ℕ → Type 0 = λ zs. IsRead (plant ∷ word) (λ j. get_or other j 0) zs (suc (length word)) in
    let s : IsRead (plant ∷ word) (λ j. get_or other j 0) [] (suc (length word)) = subst Q n r in
    record {
      as_long = let l = p.as_long in omega (arith, l, e);
      of_open = λ k o. elim (s.opened k (inside (plant ∷ word) k OPEN (omega arith) o) o) [ inl a ↦ absurd a | inr b ↦ b ];
      of_close = λ k o. s.closed k (inside (plant ∷ word) k CLOSE (omega arith) o) o;
      of_letter = λ k l a b. s.letter k l (record { not_open = a; not_close = b });
    }
