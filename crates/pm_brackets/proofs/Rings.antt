-- A ring of letters read from any of its places on: it is one, and keeps what one turn keeps.
use Rattle.std.proofs.Common.{◌≡◌, ℕ, zero, suc, ◌<◌, Bool, List, [], ◌∷◌, ◌++◌, length, All, IsTrue, arith}
use Rattle.std.proofs.lemmas.List.Elements.{All-cons, All-tail, All-append, All-nil}
use Rattle.pm_brackets.specs.declared.letters.TheConstants.{OPEN, CLOSE}
use Rattle.pm_brackets.specs.Word.{IsOther, IsMatched}
use Rattle.pm_brackets.specs.Ring.{IsTurned}
use Rattle.pm_brackets.proofs.Tally.{tally, tally-append}
use Rattle.pm_brackets.proofs.Dyck.{IsDyck, dyck_join, dyck_from_matched}
use Rattle.pm_brackets.proofs.Dyck.IsDyck.{empty, letter, bracket}
use Rattle.pm_brackets.proofs.Turns.{turned_letter, turned_bracket, turned_none, turned_more}

-- what stays true of a ring when its first letter comes last
pub record StaysTurned (P : List ℕ → Type 0) : Type 0 where
  pub letter_last : (x : ℕ) (xs : List ℕ) → IsOther x → IsDyck xs → P (x ∷ xs) → P (xs ++ x ∷ [])
  pub bracket_last : (xs ys : List ℕ) → IsDyck xs → IsDyck ys → P (OPEN ∷ (xs ++ CLOSE ∷ ys)) → P (xs ++ OPEN ∷ (ys ++ CLOSE ∷ []))

-- the ring read from a place on
pub record HasTurned (P : List ℕ → Type 0) (xs : List ℕ) (start : ℕ) : Type 0 where
  pub ring : List ℕ
  pub dyck : IsDyck ring
  pub turned : IsTurned xs start ring
  pub holds : P ring

turn_once : (P : List ℕ → Type 0) → StaysTurned P → (xs : List ℕ) → IsDyck xs → P xs → 0 < length xs → HasTurned P xs 1
turn_once P stays _ empty h some = absurd (omega arith)
turn_once P stays _ (letter x xs o a) h some = record {
  ring = xs ++ x ∷ [];
  dyck = dyck_join xs (x ∷ []) a (letter x [] o empty);
  turned = turned_letter x xs o;
  holds = stays.letter_last x xs o a h;
}
turn_once P stays _ (bracket xs ys a b) h some = record {
  ring = xs ++ OPEN ∷ (ys ++ CLOSE ∷ []);
  dyck = dyck_join xs (OPEN ∷ (ys ++ CLOSE ∷ [])) a (bracket ys [] b empty);
  turned = turned_bracket xs ys a b;
  holds = stays.bracket_last xs ys a b h;
}

pub turn : (P : List ℕ → Type 0) → StaysTurned P → (xs : List ℕ) (start : ℕ) → IsDyck xs → P xs → 0 < length xs → HasTurned P xs start
turn P stays xs zero d h some = record { ring = xs; dyck = d; turned = turned_none xs; holds = h }
turn P stays xs (suc start) d h some =
    let a = turn P stays xs start d h some in
    let b = turn_once P stays a.ring a.dyck a.holds (let l = a.turned.as_long in omega arith) in
    record { ring = b.ring; dyck = b.dyck; turned = turned_more xs a.ring b.ring start a.turned b.turned; holds = b.holds }

-- the ring of a word on a plant
pub ring_dyck : (plant : ℕ) → IsOther plant → (word : List ℕ) → IsMatched word → IsDyck (plant ∷ word)
ring_dyck plant bare word matched = letter plant word bare (dyck_from_matched word matched)

pub ring_turned : (P : List ℕ → Type 0) → StaysTurned P → (plant : ℕ) → IsOther plant → (word : List ℕ) (start : ℕ) → IsMatched word → P (plant ∷ word) → HasTurned P (plant ∷ word) start
ring_turned P stays plant bare word start matched h = turn P stays (plant ∷ word) start (ring_dyck plant bare word matched) h (omega arith)

-- nothing
pub none_stays : StaysTurned (λ ring. Unit {0})
none_stays = record { letter_last = λ x xs o a h. tt; bracket_last = λ xs ys a b h. tt }

-- two facts
pub both_stay : (P Q : List ℕ → Type 0) → StaysTurned P → StaysTurned Q → StaysTurned (λ ring. P ring × Q ring)
both_stay P Q p q = record {
  letter_last = λ x xs o a h. (p.letter_last x xs o a h.0, q.letter_last x xs o a h.1);
  bracket_last = λ xs ys a b h. (p.bracket_last xs ys a b h.0, q.bracket_last xs ys a b h.1);
}

-- the letters pass a test
module _ (good : ℕ → Bool) where
  All-rest : (x : ℕ) (xs : List ℕ) → All (λ y. IsTrue (good y)) (x ∷ xs) → All (λ y. IsTrue (good y)) xs
  All-rest x xs a = All-tail (λ y. IsTrue (good y)) x xs a

  parts : (xs ys : List ℕ) → All (λ y. IsTrue (good y)) (xs ++ ys) → All (λ y. IsTrue (good y)) xs × All (λ y. IsTrue (good y)) ys
  parts [] ys a = (All-nil (λ y. IsTrue (good y)), a)
  parts (x ∷ xs) ys a =
      let h = parts xs ys (All-rest x (xs ++ ys) a) in
      (All-cons (λ y. IsTrue (good y)) x xs (a 0 0 (omega arith)) h.0, h.1)

  single : (x : ℕ) → IsTrue (good x) → All (λ y. IsTrue (good y)) (x ∷ [])
  single x h = All-cons (λ y. IsTrue (good y)) x [] h (All-nil (λ y. IsTrue (good y)))

  pub letters_stay : IsTrue (good OPEN) → IsTrue (good CLOSE) → StaysTurned (All (λ y. IsTrue (good y)))
  letters_stay opens closes = record {
    letter_last = λ x xs o a h. All-append (λ y. IsTrue (good y)) xs (x ∷ []) (All-rest x xs h) (single x (h 0 0 (omega arith)));
    bracket_last = λ xs ys a b all.
        let h = parts xs (CLOSE ∷ ys) (All-rest OPEN (xs ++ CLOSE ∷ ys) all) in
        All-append (λ y. IsTrue (good y)) xs (OPEN ∷ (ys ++ CLOSE ∷ [])) h.0
        (All-cons (λ y. IsTrue (good y)) OPEN (ys ++ CLOSE ∷ []) opens
        (All-append (λ y. IsTrue (good y)) ys (CLOSE ∷ []) (All-rest CLOSE ys h.1) (single CLOSE closes)));
  }

-- each letter stands in it as often
pub tallies_stay : (total : ℕ → ℕ) → StaysTurned (λ ring. (z : ℕ) → tally z ring ≡ total z)
tallies_stay total = record {
  letter_last = λ x xs o a h z. (let a = tally-append z xs (x ∷ []) in let b = tally-append z (x ∷ []) xs in let c = h z in omega (arith, a, b, c));
  bracket_last = λ xs ys a b h z.
      let c = tally-append z xs (OPEN ∷ (ys ++ CLOSE ∷ [])) in
      let d = tally-append z (OPEN ∷ []) (ys ++ CLOSE ∷ []) in
      let e = tally-append z ys (CLOSE ∷ []) in
      let f = tally-append z (OPEN ∷ []) (xs ++ CLOSE ∷ ys) in
      let g = tally-append z xs (CLOSE ∷ ys) in
      let i = tally-append z (CLOSE ∷ []) ys in
      let j = h z in
      omega (arith, c, d, e, f, g, i, j);
}
