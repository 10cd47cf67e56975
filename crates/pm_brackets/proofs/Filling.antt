-- The other brackets in the making, in a list that has room for all places from the start.
use Rattle.std.proofs.Common.{◌≡◌, ℕ, suc, ◌<◌, List, [], ◌∷◌, ◌++◌, length, get_or, set, take, ap, ◌∙◌, subst, arith}
use Rattle.std.specs.Prelude.{Option, Some, slice_index, option_to_list}
use Rattle.std.proofs.Math.Seq.{take-set-lt}
use Rattle.std.proofs.lemmas.Grind.{take-set_at}
use Rattle.std.proofs.lemmas.List.{take_more, take_all, length-set}
use Rattle.pm_brackets.specs.declared.letters.TheConstants.{OPEN, CLOSE}
use Rattle.pm_brackets.specs.Word.{IsBracketing, IsMatched}
use Rattle.pm_brackets.specs.Word.{IsOther}
use Rattle.pm_brackets.proofs.Pairing.{IsPairing, pairing_start, pairing_other, pairing_open, pairing_close, pairing_end, opener_within}

-- the other brackets of the first i letters, and of the plant, are written
pub record IsFilling (plant : ℕ) (word other open_places : List ℕ) (i : ℕ) : Type 0 where
  pub prefix : IsPairing plant word (take (suc i) other) open_places i
  pub as_long : length other ≡ suc (length word)

pub filling_start : (plant : ℕ) → IsOther plant → (word other open_places : List ℕ) → length other ≡ suc (length word) → get_or other 0 0 ≡ 0 → open_places ≡ [] → IsFilling plant word other open_places 0
filling_start plant bare word other open_places long zero none =
    let one : take 1 other ≡ 0 ∷ [] = take_more other 0 0 (omega arith) ∙ ap (λ (n : ℕ). n ∷ []) zero in
    record { prefix = pairing_start plant bare word (take 1 other) open_places one none; as_long = long }

-- one entry more
prefix_more : (other other' : List ℕ) (i j x y : ℕ) → x ≡ suc i → j ≡ suc i → x < length other → other' ≡ set other x y → take (suc j) other' ≡ take (suc i) other ++ y ∷ []
prefix_more other other' i j x y at next inside is =
    ap (take (suc j)) is ∙ take-set_at other x (suc j) y (omega arith) inside ∙ ap (λ (n : ℕ). take n other ++ y ∷ []) at

pub filling_other : (plant : ℕ) (word other other' open_places open_places' : List ℕ) (i j x : ℕ) → i < length word → IsOther (slice_index word i) → other' ≡ set other x x → open_places' ≡ open_places → x ≡ suc i → j ≡ suc i
    → IsFilling plant word other open_places i → IsFilling plant word other' open_places' j
filling_other plant word other other' open_places open_places' i j x inside o is same at next h =
    let long = h.as_long in
    record {
      prefix = pairing_other plant word (take (suc i) other) (take (suc j) other') open_places open_places' i j x o (prefix_more other other' i j x x at next (omega arith) is) same at next h.prefix;
      as_long = ap length is ∙ length-set other x x ∙ long;
    }

pub filling_open : (plant : ℕ) (word other other' open_places open_places' : List ℕ) (i j x : ℕ) → i < length word → slice_index word i ≡ OPEN → other' ≡ set other x x → open_places' ≡ open_places ++ x ∷ [] → x ≡ suc i → j ≡ suc i
    → IsFilling plant word other open_places i → IsFilling plant word other' open_places' j
filling_open plant word other other' open_places open_places' i j x inside o is more at next h =
    let long = h.as_long in
    record {
      prefix = pairing_open plant word (take (suc i) other) (take (suc j) other') open_places open_places' i j x o (prefix_more other other' i j x x at next (omega arith) is) more at next h.prefix;
      as_long = ap length is ∙ length-set other x x ∙ long;
    }

-- the opening bracket at the top of the stack stands before the letters to come
pub filling_opener : (plant : ℕ) (word other xs ys : List ℕ) (r : Option ℕ) (s i : ℕ) → xs ≡ ys ++ option_to_list r → r ≡ Some s → IsFilling plant word other xs i → s < suc i
filling_opener plant word other xs ys r s i e f h =
    let within = opener_within plant word (take (suc i) other) xs ys r s i e f h.prefix in
    let long = h.prefix.as_long in
    omega arith

pub filling_close : (plant : ℕ) (word other half other' xs ys : List ℕ) (r : Option ℕ) (s i j x : ℕ) → i < length word → slice_index word i ≡ CLOSE → xs ≡ ys ++ option_to_list r → r ≡ Some s → half ≡ set other s x → other' ≡ set half x s
    → x ≡ suc i → j ≡ suc i → IsFilling plant word other xs i → IsFilling plant word other' ys j
filling_close plant word other half other' xs ys r s i j x inside o e f begun is at next h =
    let long = h.as_long in
    let before = filling_opener plant word other xs ys r s i e f h in
    let half_long : length half ≡ length other = ap length begun ∙ length-set other s x in
    let prefix : take (suc j) other' ≡ set (take (suc i) other) s x ++ s ∷ [] =
    prefix_more half other' i j x s at next (omega arith) is ∙ ap (λ (xs : List ℕ). take (suc i) xs ++ s ∷ []) begun ∙ ap (λ (xs : List ℕ). xs ++ s ∷ []) (take-set-lt (suc i) other s x before) in
    record {
      prefix = pairing_close plant word (take (suc i) other) (take (suc j) other') xs ys r s i j x o e f prefix at next h.prefix;
      as_long = ap length is ∙ length-set half x s ∙ half_long ∙ long;
    }

pub filling_end : (plant : ℕ) → IsOther plant → (word other xs : List ℕ) (i : ℕ) → i ≡ length word → IsMatched word → IsFilling plant word other xs i → IsBracketing (plant ∷ word) other
filling_end plant bare word other xs i last matched h =
    let long = h.as_long in
    subst (IsBracketing (plant ∷ word)) (take_all (suc i) other (omega arith)) (pairing_end plant bare word (take (suc i) other) xs i last matched h.prefix)
