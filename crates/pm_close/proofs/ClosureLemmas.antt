-- The closure on places is a connected structure.
use Rattle.std.proofs.Common.{◌≡◌, ℕ, zero, suc, ◌%◌, ◌<◌, ◌⊎◌, inl, inr, IsTrue, List, length, refl, sym, ◌∙◌, ap, subst, lit<, arith}
use Rattle.std.specs.Prelude.{slice_index}
use Rattle.std.proofs.lemmas.Bool.{cases_eq}
use Rattle.pm_brackets.specs.declared.letters.TheConstants.{OPEN, CLOSE}
use Rattle.pm_brackets.specs.Word.{IsBracketing}
use Rattle.pm_map.specs.Structure.{Structure, IsStructure, IsConnected}
use Rattle.pm_close.specs.Closure.{IsAcross, from_open, from_close, from_letter, AreTwins, edge_down, edge_up, IsClosure}
use Rattle.pm_close.proofs.TwinLemmas.{HasOnePartner, within, twin_unique, twins_back, twins_apart, twin_within}
use Rattle.pm_map.specs.EdgeNumbers.{IsTwinning}

-- the place across is one place
pub across_unique : (places : List ℕ) (p q r : ℕ) → HasOnePartner places → IsAcross places p q → IsAcross places p r → q ≡ r
across_unique places p q r one a b = elim a [
  | from_open h ↦ elim b [
    | from_open g ↦ one.close_of p q r h g
    | from_close g ↦ clash places p h.opens g.closes
    | from_letter not_open _ _ ↦ absurd (not_open h.opens)
  ]
  | from_close h ↦ elim b [
    | from_open g ↦ clash places p g.opens h.closes
    | from_close g ↦ one.open_of q r p h g
    | from_letter _ not_close _ ↦ absurd (not_close h.closes)
  ]
  | from_letter not_open not_close e ↦ elim b [
    | from_open g ↦ absurd (not_open g.opens)
    | from_close g ↦ absurd (not_close g.closes)
    | from_letter _ _ f ↦ sym e ∙ f
  ]
] where
  clash : {A : Type 0} (places : List ℕ) (p : ℕ) → slice_index places p ≡ OPEN → slice_index places p ≡ CLOSE → A
  clash places p o c = absurd (omega arith)

-- the place across the place across is the place itself
pub across_back : (places : List ℕ) (p q : ℕ) → IsAcross places p q → IsAcross places q p
across_back places p q a = elim a [
  | from_open h ↦ from_close h
  | from_close h ↦ from_open h
  | from_letter not_open not_close e ↦ from_letter (λ o. not_open (ap (slice_index places) e ∙ o)) (λ c. not_close (ap (slice_index places) e ∙ c)) (sym e)
]

-- the place across is a place of the contour
pub across_within : (places : List ℕ) (p q : ℕ) → p < length places → IsAcross places p q → q < length places
across_within places p q l a = elim a [
  | from_open h ↦ within places q CLOSE (lit< tt) h.closes
  | from_close h ↦ within places q OPEN (lit< tt) h.opens
  | from_letter _ _ e ↦ omega arith
]

-- a bracketing has the place across of each place
pub bracketing_across : (places other : List ℕ) → IsBracketing places other → (p : ℕ) → p < length places → IsAcross places p (slice_index other p)
bracketing_across places other b p l = elim (cases_eq (slice_index places p) OPEN) [
  | inl o ↦ from_open (b.of_open p o)
  | inr not_open ↦ elim (cases_eq (slice_index places p) CLOSE) [
    | inl c ↦ from_close (b.of_close p c)
    | inr not_close ↦ from_letter not_open not_close (sym (b.of_letter p l not_open not_close))
  ]
]

-- what a closure on places is, place by place
pub record IsLaidOut (places : List ℕ) (across : ℕ → ℕ) (t : ℕ → ℕ) : Type 0 where
  pub one : HasOnePartner places
  pub is_across : (p : ℕ) → p < length places → IsAcross places p (across p)
  pub are_twins : (p : ℕ) → p < length places → AreTwins places p (t p)

-- the structure with these places across and these twins
unfoldable pub laid_out : List ℕ → (ℕ → ℕ) → (ℕ → ℕ) → Structure
laid_out places across t = record { darts = length places; next = λ p. suc (across p) % length places; twin = t; root = 0 }

-- it is the closure
pub laid_out_closes : (places : List ℕ) (across t : ℕ → ℕ) → IsLaidOut places across t → IsClosure places (laid_out places across t)
unfolding laid_out
laid_out_closes places across t h = record {
  darts = refl;
  rotation = λ p q l a. ap (λ (k : ℕ). suc k % length places) (across_unique places p (across p) q h.one (h.is_across p l) a);
  twins = h.are_twins;
  root = refl;
}

-- its twins are places in twos
pub laid_out_twins : (places : List ℕ) (across t : ℕ → ℕ) → IsLaidOut places across t → IsTwinning (length places) t
laid_out_twins places across t h = record {
  stays = λ p l. twin_within places p (t p) (h.are_twins p l);
  back = λ p l. twin_unique places (t p) (t (t p)) p h.one (h.are_twins (t p) (twin_within places p (t p) (h.are_twins p l))) (twins_back places p (t p) (h.are_twins p l));
  other = λ p l e. twins_apart places p (t p) (h.are_twins p l) (sym e);
}

-- the next place along the ring, of a place that isn't the last and of the last
pub succ_inside : (p n : ℕ) → suc p < n → suc p % n ≡ suc p
succ_inside p n l = grind arith

pub succ_last : (n : ℕ) → 0 < n → n % n ≡ 0
succ_last n l = grind arith

succ_below : (p n : ℕ) → p < n → suc p % n < n
succ_below p n l = let some : 0 < n = omega arith in omega arith

succ_injective : (p q n : ℕ) → p < n → q < n → suc p % n ≡ suc q % n → p ≡ q
succ_injective p q n l m e = elim (cases_eq (suc p) n) [
  | inl last ↦ elim (cases_eq (suc q) n) [
    | inl also ↦ omega arith
    | inr inside ↦ absurd (omega (arith, succ_at p n last l, succ_inside q n (omega arith)))
  ]
  | inr inside ↦ elim (cases_eq (suc q) n) [
    | inl last ↦ absurd (omega (arith, succ_at q n last m, succ_inside p n (omega arith)))
    | inr also ↦ omega (arith, succ_inside p n (omega arith), succ_inside q n (omega arith))
  ]
] where
  succ_at : (p n : ℕ) → suc p ≡ n → p < n → suc p % n ≡ 0
  succ_at p n e l = ap (λ (k : ℕ). k % n) e ∙ succ_last n (omega arith)

-- it is a structure
pub laid_out_structure : (places : List ℕ) (across t : ℕ → ℕ) → 0 < length places → IsLaidOut places across t → IsStructure (laid_out places across t)
unfolding laid_out
laid_out_structure places across t some h =
    let tw = laid_out_twins places across t h in record {
      rotation = record {
        stays = λ p l. succ_below (across p) (length places) (across_within places p (across p) l (h.is_across p l));
        injective = λ p q l m e. injective places across t h p q l m
            (succ_injective (across p) (across q) (length places) (across_within places p (across p) l (h.is_across p l)) (across_within places q (across q) m (h.is_across q m)) e);
      };
      twin_stays = tw.stays;
      twin_back = tw.back;
      twin_other = tw.other;
      root_stays = λ l. l;
      no_root = λ _. refl;
    } where
      injective : (places : List ℕ) (across t : ℕ → ℕ) → IsLaidOut places across t → (p q : ℕ) → p < length places → q < length places → across p ≡ across q → p ≡ q
      injective places across t h p q l m e =
          across_unique places (across p) p q h.one (across_back places p (across p) (h.is_across p l))
          (subst (λ (k : ℕ). IsAcross places k q) (sym e) (across_back places q (across q) (h.is_across q m)))

-- the place across is the twin or the place itself
across_cases : (places : List ℕ) (p q : ℕ) → IsAcross places p q → AreTwins places p q ⊎ (p ≡ q)
across_cases places p q a = elim a [
  | from_open h ↦ inl (edge_down h)
  | from_close h ↦ inl (edge_up h)
  | from_letter _ _ e ↦ inr e
]

-- it is connected: a set that is closed under rotation and twin is closed under the next place
pub laid_out_connected : (places : List ℕ) (across t : ℕ → ℕ) → IsLaidOut places across t → IsConnected (laid_out places across t)
unfolding laid_out
laid_out_connected places across t h holds root closed zero l = root
laid_out_connected places across t h holds root closed (suc p) l =
    let before : IsTrue (holds p) = laid_out_connected places across t h holds root closed p (omega arith) in
    let below : p < length places = omega arith in
    let q = across p in
    let at_q : IsTrue (holds (across p)) = elim (across_cases places p (across p) (h.is_across p below)) [
      | inl twins ↦ subst (λ (k : ℕ). IsTrue (holds k)) (twin_unique places p (t p) (across p) h.one (h.are_twins p below) twins) (closed.under_twin p below before)
      | inr e ↦ subst (λ (k : ℕ). IsTrue (holds k)) e before
    ] in
    let after : IsTrue (holds (suc (across (across p)) % length places)) =
    closed.under_next (across p) (across_within places p (across p) below (h.is_across p below)) at_q in
    let back : across (across p) ≡ p = across_unique places (across p) (across (across p)) p h.one
    (h.is_across (across p) (across_within places p (across p) below (h.is_across p below))) (across_back places p (across p) (h.is_across p below)) in
    subst (λ (k : ℕ). IsTrue (holds k)) (ap (λ (k : ℕ). suc k % length places) back ∙ succ_inside p (length places) l) after
