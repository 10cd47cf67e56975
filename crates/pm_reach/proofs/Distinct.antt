-- Lists without repetition, and the valid lists as one.
use Rattle.std.proofs.Common.{◌≡◌, ◌⊎◌, inl, inr, ℕ, zero, suc, ◌+◌, ◌<◌, ◌≤◌, List, [], ◌∷◌, ◌++◌, map, drop, length, slice_index, ap, sym, ◌∙◌, subst, refl, arith}
use Rattle.std.specs.Prelude.{⊤}
use Rattle.pm_lists.specs.Valid.{IsValidList}
use Rattle.pm_reach.specs.Census.{lists_beginning, valid_lists}
use Rattle.pm_reach.proofs.StandingMaps.{IsOneOf}

-- no element stands twice
abbrev pub AreDistinct : {X : Type 0} → List X → Type 0
AreDistinct [] = ⊤
AreDistinct (x ∷ xs) = (IsOneOf x xs → ⊥) × AreDistinct xs

-- the list without one of its elements
record Without {X : Type 0} (x : X) (ys : List X) : Type 0 where
  rest : List X
  shorter : length ys ≡ suc (length rest)
  keeps : (y : X) → IsOneOf y ys → (y ≡ x) ⊎ IsOneOf y rest

without : {X : Type 0} (x : X) (ys : List X) → IsOneOf x ys → Without x ys
without x [] h = absurd h
without x (y ∷ ys) (inl h) = record { rest = ys; shorter = refl; keeps = λ z k. elim k [ inl is ↦ inl (is ∙ sym h) | inr there ↦ inr there ] }
without x (y ∷ ys) (inr h) =
    let w = without x ys h in
    record {
      rest = y ∷ w.rest;
      shorter = ap suc w.shorter;
      keeps = λ z k. elim k [
        | inl is ↦ inr (inl is)
        | inr there ↦ elim (w.keeps z there) [ inl is ↦ inl is | inr after ↦ inr (inr after) ]
      ];
    }

-- a list without repetition is no longer than one that has all its elements
pub no_longer : {X : Type 0} (xs ys : List X) → AreDistinct xs → ((x : X) → IsOneOf x xs → IsOneOf x ys) → length xs ≤ length ys
no_longer [] ys distinct within = omega arith
no_longer (x ∷ xs) ys distinct within =
    let w = without x ys (within x (inl refl)) in
    let fewer = no_longer xs w.rest distinct.1 (λ y h. elim (w.keeps y (within y (inr h))) [
      | inl is ↦ absurd (distinct.0 (subst (λ z. IsOneOf z xs) is h))
      | inr there ↦ there
    ]) in
    omega (arith, fewer, w.shorter)

one_of-append : {X : Type 0} (x : X) (xs ys : List X) → IsOneOf x (xs ++ ys) → IsOneOf x xs ⊎ IsOneOf x ys
one_of-append x [] ys h = inr h
one_of-append x (y ∷ xs) ys (inl h) = inl (inl h)
one_of-append x (y ∷ xs) ys (inr h) = elim (one_of-append x xs ys h) [ inl left ↦ inl (inr left) | inr right ↦ inr right ]

distinct-append : {X : Type 0} (xs ys : List X) → AreDistinct xs → AreDistinct ys → ((x : X) → IsOneOf x xs → IsOneOf x ys → ⊥) → AreDistinct (xs ++ ys)
distinct-append [] ys a b apart = b
distinct-append (x ∷ xs) ys a b apart = (
  λ h. elim (one_of-append x xs ys h) [ inl left ↦ a.0 left | inr right ↦ apart x (inl refl) right ],
  distinct-append xs ys a.1 b (λ z h k. apart z (inr h) k),
)

-- the list begins with one of so many numbers and goes on as one of these
record Begins (first more : ℕ) (rests : List (List ℕ)) (list : List ℕ) : Type 0 where
  entry : ℕ
  rest : List ℕ
  is : list ≡ entry ∷ rest
  least : first ≤ entry
  below : entry < first + more
  among : IsOneOf rest rests

begins-map : (first : ℕ) (rests : List (List ℕ)) (list : List ℕ) → IsOneOf list (map (λ rest. first ∷ rest) rests) → Begins first 1 rests list
begins-map first [] list h = absurd h
begins-map first (rest ∷ rests) list (inl h) = record { entry = first; rest = rest; is = h; least = omega arith; below = omega arith; among = inl refl }
begins-map first (rest ∷ rests) list (inr h) =
    let b = begins-map first rests list h in
    record { entry = b.entry; rest = b.rest; is = b.is; least = b.least; below = b.below; among = inr b.among }

begins : (first more : ℕ) (rests : List (List ℕ)) (list : List ℕ) → IsOneOf list (lists_beginning first more rests) → Begins first more rests list
begins first zero rests list h = absurd h
begins first (suc more) rests list h = elim (one_of-append list (map (λ rest. first ∷ rest) rests) (lists_beginning (suc first) more rests) h) [
  | inl here ↦
      let b = begins-map first rests list here in
      record { entry = b.entry; rest = b.rest; is = b.is; least = b.least; below = omega (arith, b.below); among = b.among }
  | inr later ↦
      let b = begins (suc first) more rests list later in
      record { entry = b.entry; rest = b.rest; is = b.is; least = omega (arith, b.least); below = omega (arith, b.below); among = b.among }
]

distinct-map : (first : ℕ) (rests : List (List ℕ)) → AreDistinct rests → AreDistinct (map (λ rest. first ∷ rest) rests)
distinct-map first [] distinct = tt
distinct-map first (rest ∷ rests) distinct =
    (λ h. let b = begins-map first rests (first ∷ rest) h in distinct.0 (subst (λ r. IsOneOf r rests) (sym (ap (drop 1) b.is)) b.among), distinct-map first rests distinct.1)

distinct-beginning : (first more : ℕ) (rests : List (List ℕ)) → AreDistinct rests → AreDistinct (lists_beginning first more rests)
distinct-beginning first zero rests distinct = tt
distinct-beginning first (suc more) rests distinct =
    distinct-append (map (λ rest. first ∷ rest) rests) (lists_beginning (suc first) more rests) (distinct-map first rests distinct)
    (distinct-beginning (suc first) more rests distinct)
    (λ list h k.
    let here = begins-map first rests list h in
    let later = begins (suc first) more rests list k in
    let same : here.entry ≡ later.entry = ap (λ l. slice_index l 0) (sym here.is ∙ later.is) in
    omega (arith, here.below, later.least, same))

-- no valid list is listed twice
pub valid_lists-distinct : (bounds : List ℕ) → AreDistinct (valid_lists bounds)
valid_lists-distinct [] = (λ h. h, tt)
valid_lists-distinct (bound ∷ bounds) = distinct-beginning 0 bound (valid_lists bounds) (valid_lists-distinct bounds)

-- only valid lists are listed
pub listed_is_valid : (bounds values : List ℕ) → IsOneOf values (valid_lists bounds) → IsValidList values bounds
listed_is_valid [] values (inl h) = subst (λ list. IsValidList list []) (sym h) (record { as_long = refl; below = λ place within. absurd (omega arith) })
listed_is_valid [] values (inr h) = absurd h
listed_is_valid (bound ∷ bounds) values h =
    let b = begins 0 bound (valid_lists bounds) values h in
    let rest = listed_is_valid bounds b.rest b.among in
    subst (λ list. IsValidList list (bound ∷ bounds)) (sym b.is) (longer bound b.entry bounds b.rest (omega (arith, b.below)) rest)
  where
    longer : (bound entry : ℕ) (bounds rest : List ℕ) → entry < bound → IsValidList rest bounds → IsValidList (entry ∷ rest) (bound ∷ bounds)
    longer bound entry bounds rest below valid = record { as_long = ap suc valid.as_long; below = each bound entry bounds rest below valid }
      where
        each : (bound entry : ℕ) (bounds rest : List ℕ) → entry < bound → IsValidList rest bounds
            → (place : ℕ) → place < length (entry ∷ rest) → slice_index (entry ∷ rest) place < slice_index (bound ∷ bounds) place
        each bound entry bounds rest below valid zero within = below
        each bound entry bounds rest below valid (suc place) within = valid.below place (omega arith)
