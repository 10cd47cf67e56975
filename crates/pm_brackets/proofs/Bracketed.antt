-- Each word whose brackets match has a list of the other brackets: it grows letter by letter.
use Rattle.std.proofs.Common.{◌≡◌, ℕ, zero, suc, ◌-◌, ◌<◌, inl, inr, List, [], ◌∷◌, ◌++◌, length, slice_index, get_or, take, set, Some, refl, sym, ap, ◌∙◌, arith}
use Rattle.std.proofs.lemmas.Bool.{cases_eq}
use Rattle.std.proofs.lemmas.List.{take_all}
use Rattle.std.proofs.Math.Seq.{take-suc}
use Rattle.pm_brackets.specs.declared.letters.TheConstants.{OPEN, CLOSE}
use Rattle.pm_brackets.specs.Word.{IsOther, IsMatched, IsBracketing}
use Rattle.pm_brackets.proofs.Pairing.{IsPairing, pairing_start, pairing_other, pairing_open, pairing_close, pairing_end, opener_is_there}

-- the list and the places of the open brackets after the first i letters
record HasPairing (plant : ℕ) (word : List ℕ) (i : ℕ) : Type 0 where
  other : List ℕ
  open_places : List ℕ
  state : IsPairing plant word other open_places i

prefix_and_last : (xs : List ℕ) → 0 < length xs → xs ≡ take (length xs - 1) xs ++ get_or xs (length xs - 1) 0 ∷ []
prefix_and_last xs some =
    let whole : suc (length xs - 1) ≡ length xs = omega arith in
    sym (ap (λ (n : ℕ). take n xs) whole ∙ take_all (length xs) xs (omega arith)) ∙ take-suc xs (length xs - 1) 0 (omega arith)

read_closing : (plant : ℕ) → IsOther plant → (word : List ℕ) (i : ℕ) → IsMatched word → slice_index word i ≡ CLOSE → HasPairing plant word i → HasPairing plant word (suc i)
read_closing plant bare word i m e h =
    let some : 0 < length h.open_places = opener_is_there plant bare word h.other h.open_places i m e h.state in
    let opener : ℕ = get_or h.open_places (length h.open_places - 1) 0 in
    record {
      other = set h.other opener (suc i) ++ opener ∷ [];
      open_places = take (length h.open_places - 1) h.open_places;
      state = pairing_close plant word h.other _ h.open_places _ (Some opener) opener i (suc i) (suc i) e (prefix_and_last h.open_places some) refl refl refl refl h.state;
    }

read_letter : (plant : ℕ) → IsOther plant → (word : List ℕ) (i : ℕ) → IsMatched word → HasPairing plant word i → HasPairing plant word (suc i)
read_letter plant bare word i m h =
    elim (cases_eq (slice_index word i) CLOSE) [
      | inl close ↦ read_closing plant bare word i m close h
      | inr no_close ↦ elim (cases_eq (slice_index word i) OPEN) [
        | inl open_here ↦ record {
          other = h.other ++ suc i ∷ [];
          open_places = h.open_places ++ suc i ∷ [];
          state = pairing_open plant word h.other _ h.open_places _ i (suc i) (suc i) open_here refl refl refl refl h.state;
        }
        | inr no_open ↦ record {
          other = h.other ++ suc i ∷ [];
          open_places = h.open_places;
          state = pairing_other plant word h.other _ h.open_places _ i (suc i) (suc i) (record { not_open = no_open; not_close = no_close }) refl refl refl refl h.state;
        }
      ]
    ]

read_letters : (plant : ℕ) → IsOther plant → (word : List ℕ) (i : ℕ) → IsMatched word → HasPairing plant word i
read_letters plant bare word zero m = record { other = 0 ∷ []; open_places = []; state = pairing_start plant bare word (0 ∷ []) [] refl refl }
read_letters plant bare word (suc i) m = read_letter plant bare word i m (read_letters plant bare word i m)

-- a word whose brackets match has its list of the other brackets
pub bracketing_exists : (plant : ℕ) → IsOther plant → (word : List ℕ) → IsMatched word → (other : List ℕ) × IsBracketing (plant ∷ word) other
bracketing_exists plant bare word matched =
    let end = read_letters plant bare word (length word) matched in
    (end.other, pairing_end plant bare word end.other end.open_places (length word) refl matched end.state)
