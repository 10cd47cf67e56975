-- A contour has one closure.
use Rattle.std.proofs.Common.{◌≡◌, ℕ, ◌<◌, List, length, sym, ◌∙◌, ap, arith}
use Rattle.std.specs.Prelude.{slice_index}
use Rattle.std.proofs.lemmas.Grind.{same_number_lists}
use Rattle.pm_perm.proofs.Permutations.{IsReached, reached}
use Rattle.pm_map.specs.Structure.{Structure, Same}
use Rattle.pm_map.specs.Rotation.{RotationSystem}
use Rattle.pm_close.specs.Closure.{IsAcross, IsClosure, IsClosed}
use Rattle.pm_map.specs.EdgeNumbers.{dart_of}
use Rattle.pm_map.proofs.NumberedEdges.{dart_of-same}
use Rattle.pm_close.proofs.TwinLemmas.{HasOnePartner, twin_unique, twin_within}

-- each place has a place across
pub record HasAcross (places : List ℕ) : Type 0 where
  pub one : HasOnePartner places
  pub some : (p : ℕ) → p < length places → (q : ℕ) × IsAcross places p q

-- the two closures on places have the same twins, and the same places next
pub closures_twins : (places : List ℕ) (a b : Structure) → HasAcross places → IsClosure places a → IsClosure places b → (p : ℕ) → p < length places → a.twin p ≡ b.twin p
closures_twins places a b h one two p l = twin_unique places p (a.twin p) (b.twin p) h.one (one.twins p l) (two.twins p l)

closures_next : (places : List ℕ) (a b : Structure) → HasAcross places → IsClosure places a → IsClosure places b → (p : ℕ) → p < length places → a.next p ≡ b.next p
closures_next places a b h one two p l =
    let across = h.some p l in
    one.rotation p across.0 l across.1 ∙ sym (two.rotation p across.0 l across.1)

-- the two closures on places are the same
pub closures_same : (places : List ℕ) (a b : Structure) → HasAcross places → IsClosure places a → IsClosure places b → Same a b
closures_same places a b h one two =
    let within : (p : ℕ) → p < a.darts → p < length places = λ p l. omega (arith, l, one.darts) in (
      λ p. p,
      record {
        darts = one.darts ∙ sym two.darts;
        renumbers = record { stays = λ p l. l; injective = λ p q l m e. e };
        next = λ p l. closures_next places a b h one two p (within p l);
        twin = λ p l. closures_twins places a b h one two p (within p l);
        root = λ some. one.root ∙ sym two.root;
      },
    )

same_maps : (a b : RotationSystem) → a.sigma ≡ b.sigma → a.root ≡ b.root → a ≡ b
same_maps a b s r = ap (made a.root) s ∙ ap (λ (x : ℕ). made x b.sigma) r where
  made : ℕ → List ℕ → RotationSystem
  made x xs = record { sigma = xs; root = x }

-- a contour has one closed map
pub closed_unique : (places : List ℕ) (a b : RotationSystem) → HasAcross places → 0 < length places → IsClosed places a → IsClosed places b → a ≡ b
closed_unique places a b h some one two =
    let s = one.closure in
    let t = two.closure in
    let twins : (p : ℕ) → p < length places → s.twin p ≡ t.twin p = closures_twins places s t h one.is_closure two.is_closure in
    let darts : (p : ℕ) → p < length places → dart_of s.twin p ≡ dart_of t.twin p = λ p l.
    dart_of-same s.twin t.twin (length places) p twins l (twin_within places p (s.twin p) (one.is_closure.twins p l)) in
    same_maps a b
    (same_number_lists a.sigma b.sigma (long places a b one two) (λ d l. entries places a b h one two twins darts d l))
    (roots places a b some one two darts) where
      long : (places : List ℕ) (a b : RotationSystem) → IsClosed places a → IsClosed places b → length a.sigma ≡ length b.sigma
      long places a b one two = omega (arith, one.carries.darts, two.carries.darts, one.is_closure.darts, two.is_closure.darts)

      roots : (places : List ℕ) (a b : RotationSystem) → 0 < length places → (one : IsClosed places a) → (two : IsClosed places b)
          → ((p : ℕ) → p < length places → dart_of one.closure.twin p ≡ dart_of two.closure.twin p) → a.root ≡ b.root
      roots places a b some one two darts =
          let first : dart_of one.closure.twin one.closure.root ≡ a.root = one.carries.root (omega (arith, one.is_closure.darts)) in
          let second : dart_of two.closure.twin two.closure.root ≡ b.root = two.carries.root (omega (arith, two.is_closure.darts)) in
          sym first ∙ ap (dart_of one.closure.twin) one.is_closure.root ∙ darts 0 some ∙ ap (dart_of two.closure.twin) (sym two.is_closure.root) ∙ second

      entries : (places : List ℕ) (a b : RotationSystem) → HasAcross places → (one : IsClosed places a) → (two : IsClosed places b)
          → ((p : ℕ) → p < length places → one.closure.twin p ≡ two.closure.twin p)
          → ((p : ℕ) → p < length places → dart_of one.closure.twin p ≡ dart_of two.closure.twin p)
          → (d : ℕ) → d < length a.sigma → slice_index a.sigma d ≡ slice_index b.sigma d
      entries places a b h one two twins darts d l =
          let s = one.closure in
          let t = two.closure in
          let r : IsReached (dart_of s.twin) s.darts d = reached (dart_of s.twin) s.darts d one.carries.renumbers (omega (arith, one.carries.darts)) in
          let below : r.from < length places = omega (arith, one.is_closure.darts, r.below) in
          let below_t : r.from < t.darts = omega (arith, below, two.is_closure.darts) in
          let from_t : dart_of t.twin r.from ≡ d = sym (darts r.from below) ∙ r.value in
          let next_a : dart_of s.twin (s.next r.from) ≡ slice_index a.sigma d = one.carries.next r.from r.below ∙ ap (slice_index a.sigma) r.value in
          let next_b : dart_of t.twin (t.next r.from) ≡ slice_index b.sigma d = two.carries.next r.from below_t ∙ ap (slice_index b.sigma) from_t in
          let nexts : s.next r.from ≡ t.next r.from = closures_next places s t h one.is_closure two.is_closure r.from below in
          let across = h.some r.from below in
          let next_below : s.next r.from < length places = omega (arith, one.is_closure.rotation r.from across.0 below across.1, below) in
          sym next_a ∙ darts (s.next r.from) next_below ∙ ap (dart_of t.twin) nexts ∙ next_b
