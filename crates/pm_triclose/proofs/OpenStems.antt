-- The stems and the brackets that are open when a word has been read up to a place.
use Rattle.std.proofs.Common.{◌≡◌, ◌≢◌, ℕ, zero, suc, ◌+◌, ◌-◌, ◌<◌, ◌≤◌, Bool, true, false, inl, inr, List, [], ◌∷◌, length, slice_index, refl, ap, ◌∙◌, subst, arith}
use Rattle.std.proofs.lemmas.Bool.{cases_eq, cases_lt, cases_order}
use Rattle.pm_brackets.specs.declared.letters.TheConstants.{OPEN, CLOSE}
use Rattle.pm_brackets.specs.Word.{IsBracketPair}
use Rattle.pm_brackets.proofs.Nesting.{one_closer, one_opener, opens_inside}
use Rattle.pm_brackets.proofs.RingPlaces.{mod_stays}
use Rattle.pm_map.specs.EdgeNumbers.{dart_of}
use Rattle.pm_tri.specs.declared.letters.TheConstants.{STEM}
use Rattle.pm_tri.specs.Sides.{sides, stem_steps}
use Rattle.pm_tri.specs.Whole.{IsAhead}
use Rattle.pm_tri.proofs.SideCounts.{IsSideAt, IsStemAt, down, down_stretch, side_step, stem_step, up, up_stretch}
use Rattle.pm_triclose.specs.declared.closing.OpenStem.{OpenStem}
use Rattle.pm_triclose.specs.WholeClosure.{ClosesAhead}
use Rattle.pm_triclose.proofs.AheadStems.{one_ahead}
use Rattle.pm_brackets.proofs.Levels.{inside}

-- the step of the walk at a place
pub stem_here : (places : List ℕ) (x : ℕ) → slice_index places x ≡ STEM → IsStemAt places x
stem_here places x e =
    let l = inside places x STEM (omega arith) e in
    stem_step places x (ap (slice_index places) (mod_stays x (length places) l) ∙ e)

pub opener_here : (places : List ℕ) (x : ℕ) → slice_index places x ≡ OPEN → IsSideAt places x
opener_here places x e =
    let l = inside places x OPEN (omega arith) e in
    side_step places x (inl (ap (slice_index places) (mod_stays x (length places) l) ∙ e))

pub closer_here : (places : List ℕ) (x : ℕ) → slice_index places x ≡ CLOSE → IsSideAt places x
closer_here places x e =
    let l = inside places x CLOSE (omega arith) e in
    side_step places x (inr (ap (slice_index places) (mod_stays x (length places) l) ∙ e))

-- a stem closes behind it, where the walk rises above its corner
pub ahead_after : (places : List ℕ) (x q : ℕ) → IsAhead places x q → x < q
ahead_after places x q a = found a.steps a.is a.sum where
  found : (n : ℕ) → x + n ≡ q → sides places (suc x) n ≡ stem_steps places (suc x) n + 2 → x < q
  found zero e s = absurd (let a : sides places (suc x) 0 ≡ 0 = refl in omega (arith, a, s))
  found (suc n) e s = omega (arith, e)

pub ahead_rises : (places : List ℕ) (x q : ℕ) → IsAhead places x q → up places (suc q) + down places x ≡ up places x + down places (suc q) + 1
ahead_rises places x q a =
    let s = stem_here places x a.stem in
    let e : suc x + a.steps ≡ suc q = let i = a.is in omega (arith, i) in
    omega (arith, ap (up places) e, ap (down places) e, up_stretch places (suc x) a.steps, down_stretch places (suc x) a.steps, a.sum, s.same, s.more)

-- and at no place before
pub not_before : (places : List ℕ) (x q r : ℕ) → IsAhead places x r → x < q → q < r → up places (suc q) + down places x ≢ up places x + down places (suc q) + 1
not_before places x q r a l m rises =
    let s = stem_here places x a.stem in
    let i = a.is in
    let e : suc x + (q - x) ≡ suc q = omega arith in
    a.is_first (q - x) (omega (arith, i, l, m)) (omega (arith, ap (up places) e, ap (down places) e, up_stretch places (suc x) (q - x), down_stretch places (suc x) (q - x), rises, s.same, s.more))

-- the stem closes before the place
abbrev pub IsClosedBefore : List ℕ → ℕ → ℕ → Type 0
IsClosedBefore places k x = (r : ℕ) × IsAhead places x r × (r < k)

-- one side more than stems, or none
abbrev pub units : Bool → ℕ
units true = 1
units false = 0

pub units_few : (b : Bool) → units b ≤ 1
units_few true = omega arith
units_few false = omega arith

-- The last open stem below a bound, when the letters before place k were read. The walk stands at the height of place c: below
-- the stem's corner, or at its height where one side more than stems stands behind it.
pub record IsTop (places : List ℕ) (t : ℕ → ℕ) (bound k c x : ℕ) (stem : OpenStem) : Type 0 where
  pub is_stem : slice_index places x ≡ STEM
  pub below : x < bound
  pub level : up places c + down places x + 1 ≡ up places x + down places c + units stem.half
  pub open' : (r : ℕ) → IsAhead places x r → k ≤ r
  pub between : (z : ℕ) → x < z → z < bound → slice_index places z ≡ STEM → IsClosedBefore places k z
  pub dart : stem.dart ≡ dart_of t x

-- the open stems below a bound, the last one first
abbrev pub AreWaiting : List ℕ → (ℕ → ℕ) → ℕ → ℕ → ℕ → List OpenStem → Type 0
AreWaiting places t bound k c [] = (z : ℕ) → z < bound → slice_index places z ≡ STEM → IsClosedBefore places k z
AreWaiting places t bound k c (stem ∷ rest) = (x : ℕ) × IsTop places t bound k c x stem × AreWaiting places t x k x rest

-- the same at the height of another place
pub waiting_level : (places : List ℕ) (t : ℕ → ℕ) (bound k c d : ℕ) (stems : List OpenStem) → up places c + down places d ≡ up places d + down places c → AreWaiting places t bound k c stems → AreWaiting places t bound k d stems
waiting_level places t bound k c d [] e h = h
waiting_level places t bound k c d (stem ∷ rest) e h =
    let top = h.1 in (
      h.0,
      record {
        is_stem = top.is_stem;
        below = top.below;
        level = omega (arith, top.level, e);
        open' = top.open';
        between = top.between;
        dart = top.dart;
      },
      h.2,
    )

pub closed_later : (places : List ℕ) (k z : ℕ) → IsClosedBefore places k z → IsClosedBefore places (suc k) z
closed_later places k z h = (h.0, h.1, (let l = h.2 in omega arith))

-- a letter at which the walk doesn't rise above the height of c closes none of them
pub waiting_later : (places : List ℕ) (t : ℕ → ℕ) (bound k c : ℕ) (stems : List OpenStem) → up places (suc k) + down places c ≤ up places c + down places (suc k)
    → AreWaiting places t bound k c stems → AreWaiting places t bound (suc k) c stems
waiting_later places t bound k c [] low h = λ z l e. closed_later places k z (h z l e)
waiting_later places t bound k c (stem ∷ rest) low h =
    let x = h.0 in
    let top = h.1 in
    let few = units_few stem.half in
    let flat : up places (suc k) + down places x ≤ up places x + down places (suc k) = omega (arith, top.level, few, low) in (
      x,
      record {
        is_stem = top.is_stem;
        below = top.below;
        level = top.level;
        open' = λ r a. elim (cases_eq r k) [
          | inl e ↦ absurd (omega (arith, ahead_rises places x k (subst (IsAhead places x) e a), flat))
          | inr ne ↦ let l = top.open' r a in omega (arith, l, ne)
        ];
        between = λ z l m e. closed_later places k z (top.between z l m e);
        dart = top.dart;
      },
      waiting_later places t x k x rest flat h.2,
    )

-- with a greater bound
pub waiting_wider : (places : List ℕ) (t : ℕ → ℕ) (bound wide k c : ℕ) (stems : List OpenStem) → bound ≤ wide → ((z : ℕ) → bound ≤ z → z < wide → slice_index places z ≡ STEM → IsClosedBefore places k z)
    → AreWaiting places t bound k c stems → AreWaiting places t wide k c stems
waiting_wider places t bound wide k c [] le more h = λ z l e. elim (cases_lt z bound) [ inl m ↦ h z m e | inr m ↦ more z m l e ]
waiting_wider places t bound wide k c (stem ∷ rest) le more h =
    let top = h.1 in (
      h.0,
      record {
        is_stem = top.is_stem;
        below = let l = top.below in omega (arith, l, le);
        level = top.level;
        open' = top.open';
        between = λ z l m e. elim (cases_lt z bound) [ inl n ↦ top.between z l n e | inr n ↦ more z n m e ];
        dart = top.dart;
      },
      h.2,
    )

-- none of the stems below the bound closes at k, where the walk doesn't rise above the height of c
pub none_closes : (places : List ℕ) (t : ℕ → ℕ) (bound k c : ℕ) (stems : List OpenStem) → up places (suc k) + down places c ≤ up places c + down places (suc k)
    → AreWaiting places t bound k c stems → (z : ℕ) → z < bound → IsAhead places z k → ⊥
none_closes places t bound k c [] low h z l a = let f = h z l a.stem in let e = one_ahead places z f.0 k f.1 a in let m = f.2 in omega (arith, e, m)
none_closes places t bound k c (stem ∷ rest) low h z l a =
    let x = h.0 in
    let top = h.1 in
    let few = units_few stem.half in
    let flat : up places (suc k) + down places x ≤ up places x + down places (suc k) = omega (arith, top.level, few, low) in
    elim (cases_order z x) [
      | inl e ↦ omega (arith, ahead_rises places x k (subst (λ (y : ℕ). IsAhead places y k) e a), flat)
      | inr other ↦ elim other [
        | inl less ↦ none_closes places t x k x rest flat h.2 z less a
        | inr more ↦ let f = top.between z more l a.stem in let e = one_ahead places z f.0 k f.1 a in let m = f.2 in omega (arith, e, m)
      ]
    ]

-- the last one closes at k where the walk rises above its corner there
pub top_closes : (places : List ℕ) (t : ℕ → ℕ) (bound k c x : ℕ) (stem : OpenStem) → ClosesAhead places → bound ≤ k → up places (suc k) + down places x ≡ up places x + down places (suc k) + 1
    → IsTop places t bound k c x stem → IsAhead places x k
top_closes places t bound k c x stem ahead le rises top =
    let f = ahead x top.is_stem in
    let l = top.open' f.0 f.1 in
    let m = top.below in
    elim (cases_eq f.0 k) [
      | inl e ↦ subst (IsAhead places x) e f.1
      | inr ne ↦ absurd (not_before places x k f.0 f.1 (omega (arith, le, m)) (omega (arith, l, ne)) rises)
    ]

-- the last open bracket below a bound
pub record IsTopBracket (places : List ℕ) (t : ℕ → ℕ) (bound k p d : ℕ) : Type 0 where
  pub closer : ℕ
  pub pair : IsBracketPair places p closer
  pub open' : k ≤ closer
  pub below : p < bound
  pub between : (z q : ℕ) → p < z → z < bound → IsBracketPair places z q → q < k
  pub dart : d ≡ dart_of t p

abbrev pub AreOpen : List ℕ → (ℕ → ℕ) → ℕ → ℕ → List ℕ → Type 0
AreOpen places t bound k [] = (z q : ℕ) → z < bound → IsBracketPair places z q → q < k
AreOpen places t bound k (d ∷ rest) = (p : ℕ) × IsTopBracket places t bound k p d × AreOpen places t p k rest

-- a letter that closes none of them
pub open_later : (places : List ℕ) (t : ℕ → ℕ) (bound k : ℕ) (darts : List ℕ) → ((z : ℕ) → z < bound → IsBracketPair places z k → ⊥) → AreOpen places t bound k darts → AreOpen places t bound (suc k) darts
open_later places t bound k [] none h = λ z q l a. let m = h z q l a in omega (arith, m)
open_later places t bound k (d ∷ rest) none h =
    let top = h.1 in
    let l = top.below in (
      h.0,
      record {
        closer = top.closer;
        pair = top.pair;
        open' = elim (cases_eq top.closer k) [
          | inl e ↦ absurd (none h.0 l (subst (IsBracketPair places h.0) e top.pair))
          | inr ne ↦ let m = top.open' in omega (arith, m, ne)
        ];
        below = top.below;
        between = λ z q l m a. let n = top.between z q l m a in omega (arith, n);
        dart = top.dart;
      },
      open_later places t h.0 k rest (λ z m a. none z (omega (arith, m, l)) a) h.2,
    )

pub open_wider : (places : List ℕ) (t : ℕ → ℕ) (bound wide k : ℕ) (darts : List ℕ) → bound ≤ wide → ((z q : ℕ) → bound ≤ z → z < wide → IsBracketPair places z q → q < k) → AreOpen places t bound k darts → AreOpen places t wide k darts
open_wider places t bound wide k [] le more h = λ z q l a. elim (cases_lt z bound) [ inl m ↦ h z q m a | inr m ↦ more z q m l a ]
open_wider places t bound wide k (d ∷ rest) le more h =
    let top = h.1 in (
      h.0,
      record {
        closer = top.closer;
        pair = top.pair;
        open' = top.open';
        below = let l = top.below in omega (arith, l, le);
        between = λ z q l m a. elim (cases_lt z bound) [ inl n ↦ top.between z q l n a | inr n ↦ more z q n m a ];
        dart = top.dart;
      },
      h.2,
    )

-- a `)` closes the last one
pub record IsPopped (places : List ℕ) (t : ℕ → ℕ) (k p d : ℕ) (rest : List ℕ) : Type 0 where
  pub dart : d ≡ dart_of t p
  pub left : AreOpen places t (suc k) (suc k) rest

pub some_open : (places : List ℕ) (t : ℕ → ℕ) (k p : ℕ) (darts : List ℕ) → IsBracketPair places p k → AreOpen places t k k darts → 0 < length darts
some_open places t k p [] a h = let l = h p k a.before a in absurd (omega (arith, l))
some_open places t k p (d ∷ rest) a h = omega arith

pub open_popped : (places : List ℕ) (t : ℕ → ℕ) (k p d : ℕ) (rest : List ℕ) → IsBracketPair places p k → AreOpen places t k k (d ∷ rest) → IsPopped places t k p d rest
open_popped places t k p d rest a h = found h.0 h.1 h.2 where
  is : (o : ℕ) → IsTopBracket places t k k o d → o ≡ p
  is o top = elim (cases_order o p) [
    | inl e ↦ e
    | inr apart ↦ elim apart [
      | inl l ↦ absurd (let m = top.between p k l a.before a in omega (arith, m))
      | inr l ↦ absurd (let m = opens_inside places p k o top.closer a top.pair l top.below in let n = top.open' in omega (arith, m, n))
    ]
  ]

  found : (o : ℕ) → IsTopBracket places t k k o d → AreOpen places t o k rest → IsPopped places t k p d rest
  found o top below =
      let e = is o top in
      let none : (z : ℕ) → z < o → IsBracketPair places z k → ⊥ = λ z l b. omega (arith, l, e, one_opener places z k p b a) in
      record {
        dart = top.dart ∙ ap (dart_of t) e;
        left = open_wider places t o (suc k) (suc k) rest (let l = top.below in omega (arith, l)) (λ z q l m b. elim (cases_order z o) [
          | inl f ↦ let g = one_closer places p q k (subst (λ (y : ℕ). IsBracketPair places y q) (f ∙ e) b) a in omega (arith, g)
          | inr apart ↦ elim apart [
            | inl less ↦ absurd (omega (arith, less, l))
            | inr more ↦ elim (cases_lt z k) [
              | inl n ↦ let r = top.between z q more n b in omega (arith, r)
              | inr n ↦
                  let f : z ≡ k = omega (arith, m, n) in
                  let o' = b.opens in
                  let c = a.closes in
                  absurd (omega (arith, o', c, ap (slice_index places) f))
            ]
          ]
        ]) (open_later places t o k rest none below);
      }
