-- The step of growth in the lists as they are written.
use Rattle.std.proofs.Common.{◌≡◌, ℕ, suc, ◌-◌, ◌*◌, ◌<◌, ◌≢◌, ◌⊎◌, List, length, set, slice_index, slice_set, refl, subst, ◌∙◌, inl, inr, arith, length-set, get_or-set_same, get_or-set_other}
use Rattle.pm_remy.specs.Tree.{Tree, leaves}
use Rattle.pm_remy.specs.Growth.{grafted}
use Rattle.pm_remy.specs.steps.Linked.{IsHung, IsTreeIn}
use Rattle.pm_remy.proofs.Counts.{IsCounted, apart_counted, below_counted, names-once}
use Rattle.pm_remy.proofs.Grown.{counted-grafted}
use Rattle.pm_remy.proofs.Linking.{IsStep, IsBranched, IsPlaced, rooted-after, placed}
use Rattle.pm_remy.proofs.Once.{counted-labels, counted-leaves, labels-counted}

pub counted-in : (L P : List ℕ) (t : Tree) (k : ℕ) → IsTreeIn L P t → leaves t ≡ k → IsCounted k t
counted-in L P t k h e = subst (λ (n : ℕ). IsCounted n t) e (counted-labels t h.once)

-- a node of the tree hangs at its place
pub placed-in : (L P : List ℕ) (t : Tree) (k b : ℕ) → IsTreeIn L P t → leaves t ≡ k → suc b < 2 * k → IsPlaced (slice_index L) (slice_index P) (2 * k - 1) b
placed-in L P t k b h e q =
    let counted = counted-in L P t k h e in
    placed (slice_index L) (slice_index P) k b t (below_counted k t counted) (apart_counted k t counted) h.rooted (omega (arith, names-once k t counted b q))

-- where two numbers are hung
hung-set : (L P : List ℕ) (p b : ℕ) → p < length L → b < length P → IsHung (slice_index (set L p b)) (slice_index (set P b p)) p b
hung-set L P p b q i = record { down = get_or-set_same L p b 0 q; up = get_or-set_same P b p 0 i }

hung-other : (L P : List ℕ) (p b q c : ℕ) → q ≢ p → c ≢ b → IsHung (slice_index L) (slice_index P) q c → IsHung (slice_index (set L p b)) (slice_index (set P b p)) q c
hung-other L P p b q c n m h = record { down = get_or-set_other L p q b 0 n ∙ h.down; up = get_or-set_other P b c p 0 m ∙ h.up }

-- the three writes of a new leaf
abbrev pub links_grown : List ℕ → ℕ → ℕ → ℕ → ℕ → List ℕ
links_grown L p f x y = slice_set (slice_set (slice_set L p f) f x) (suc f) y

abbrev pub places_grown : List ℕ → ℕ → ℕ → ℕ → ℕ → List ℕ
places_grown P p f x y = slice_set (slice_set (slice_set P f p) x f) y (suc f)

step-grown : (L P : List ℕ) (f a p x y : ℕ) → IsHung (slice_index L) (slice_index P) p a → p < f → a < f → suc f < length L → suc f < length P
    → ((x ≡ a) × (y ≡ suc f)) ⊎ ((x ≡ suc f) × (y ≡ a))
    → IsStep (slice_index L) (slice_index P) (slice_index (links_grown L p f x y)) (slice_index (places_grown P p f x y)) f a p
step-grown L P f a p x y hung q i room space sides =
    let x_other : f ≢ x = elim sides [ inl w ↦ omega (arith, w.0) | inr w ↦ omega (arith, w.0) ] in
    let y_other : f ≢ y = elim sides [ inl w ↦ omega (arith, w.1) | inr w ↦ omega (arith, w.1) ] in
    record {
      before = hung;
      after = hung-other (set (set L p f) f x) (set (set P f p) x f) (suc f) y p f (omega arith) y_other
          (hung-other (set L p f) (set P f p) f x p f (omega arith) x_other (hung-set L P p f (omega arith) (omega arith)));
      links_stay = λ r j n. get_or-set_other (set (set L p f) f x) (suc f) r y 0 (omega arith)
          ∙ (get_or-set_other (set L p f) f r x 0 (omega arith) ∙ get_or-set_other L p r f 0 n);
      places_stay = λ b j n. get_or-set_other (set (set P f p) x f) y b (suc f) 0 (elim sides [ inl w ↦ omega (arith, w.1) | inr w ↦ omega (arith, w.1) ])
          ∙ (get_or-set_other (set P f p) x b f 0 (elim sides [ inl w ↦ omega (arith, w.0) | inr w ↦ omega (arith, w.0) ]) ∙ get_or-set_other P f b p 0 (omega arith));
    }

hung-left : (L P : List ℕ) (f a p x y : ℕ) → p < f → x ≢ y → suc f < length L → x < length P
    → IsHung (slice_index (links_grown L p f x y)) (slice_index (places_grown P p f x y)) f x
hung-left L P f a p x y q n room space =
    hung-other (set (set L p f) f x) (set (set P f p) x f) (suc f) y f x (omega arith) n
    (hung-set (set L p f) (set P f p) f x (omega (arith, length-set L p f)) (omega (arith, length-set P f p)))

hung-right : (L P : List ℕ) (f p x y : ℕ) → suc f < length L → y < length P
    → IsHung (slice_index (links_grown L p f x y)) (slice_index (places_grown P p f x y)) (suc f) y
hung-right L P f p x y room space =
    hung-set (set (set L p f) f x) (set (set P f p) x f) (suc f) y
    (omega (arith, length-set (set L p f) f x, length-set L p f)) (omega (arith, length-set (set P f p) x f, length-set P f p))

-- the lists after a new leaf hold the tree with it
record IsRoom (L P : List ℕ) (k a : ℕ) : Type 0 where
  positive : 0 < k
  node : a < 2 * k - 1
  links : 2 * k < length L
  places : 2 * k < length P

grown-in : (L P : List ℕ) (t : Tree) (k a s x y : ℕ) → IsTreeIn L P t → leaves t ≡ k → IsRoom L P k a
    → ((x ≡ a) × (y ≡ suc (2 * k - 1))) ⊎ ((x ≡ suc (2 * k - 1)) × (y ≡ a))
    → IsBranched (slice_index (links_grown L (slice_index P a) (2 * k - 1) x y)) (slice_index (places_grown P (slice_index P a) (2 * k - 1) x y)) s k a
    → IsTreeIn (links_grown L (slice_index P a) (2 * k - 1) x y) (places_grown P (slice_index P a) (2 * k - 1) x y) (grafted a s k t)
grown-in L P t k a s x y h e room sides b =
    let f = 2 * k - 1 in
    let p = slice_index P a in
    let positive = room.positive in
    let node = room.node in
    let counted = counted-in L P t k h e in
    let at = placed-in L P t k a h e (omega arith) in
    let hung : IsHung (slice_index L) (slice_index P) p a = record { down = at.hangs; up = refl } in
    let step = step-grown L P f a p x y hung at.low node (omega (arith, room.links)) (omega (arith, room.places)) sides in
    let more = counted-grafted k a s t counted (names-once k t counted a (omega arith)) in
    let size = counted-leaves (suc k) (grafted a s k t) more in
    record {
      rooted = rooted-after (slice_index L) (slice_index P) (slice_index (links_grown L p f x y)) (slice_index (places_grown P p f x y)) k a s p t step b
          (below_counted k t counted) (apart_counted k t counted) h.rooted;
      once = labels-counted (suc k) (grafted a s k t) more;
      links_room = omega (arith, room.links, length-set (set (set L p f) f x) (suc f) y, length-set (set L p f) f x, length-set L p f);
      places_room = omega (arith, room.places, length-set (set (set P f p) x f) y (suc f), length-set (set P f p) x f, length-set P f p);
    }

pub grown-right : (L P : List ℕ) (t : Tree) (k a : ℕ) → 0 < k → a < 2 * k - 1 → 2 * k < length L → 2 * k < length P → IsTreeIn L P t → leaves t ≡ k
    → IsTreeIn (links_grown L (slice_index P a) (2 * k - 1) a (2 * k)) (places_grown P (slice_index P a) (2 * k - 1) a (2 * k)) (grafted a 0 k t)
grown-right L P t k a positive node room space h e =
    let at = placed-in L P t k a h e (omega arith) in
    let upper : 2 * k ≡ suc (2 * k - 1) = omega arith in
    grown-in L P t k a 0 a (2 * k) h e (record { positive = positive; node = node; links = room; places = space }) (inl (refl, upper))
    (record {
      right = λ _. (
        hung-left L P (2 * k - 1) a (slice_index P a) a (2 * k) at.low (omega arith) (omega arith) (omega arith),
        hung-right L P (2 * k - 1) (slice_index P a) a (2 * k) (omega arith) space,
      );
      left = λ n. absurd (n refl);
    })

pub grown-left : (L P : List ℕ) (t : Tree) (k a s : ℕ) → s ≢ 0 → 0 < k → a < 2 * k - 1 → 2 * k < length L → 2 * k < length P → IsTreeIn L P t → leaves t ≡ k
    → IsTreeIn (links_grown L (slice_index P a) (2 * k - 1) (2 * k) a) (places_grown P (slice_index P a) (2 * k - 1) (2 * k) a) (grafted a s k t)
grown-left L P t k a s other positive node room space h e =
    let at = placed-in L P t k a h e (omega arith) in
    let upper : 2 * k ≡ suc (2 * k - 1) = omega arith in
    grown-in L P t k a s (2 * k) a h e (record { positive = positive; node = node; links = room; places = space }) (inr (upper, refl))
    (record {
      right = λ n. absurd (other n);
      left = λ _. (
        hung-left L P (2 * k - 1) a (slice_index P a) (2 * k) a at.low (omega arith) (omega arith) space,
        hung-right L P (2 * k - 1) (slice_index P a) (2 * k) a (omega arith) (omega arith),
      );
    })
