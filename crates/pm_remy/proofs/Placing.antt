-- The places of a tree without its links: a new leaf in them, and the links as their inverse.
use Rattle.std.proofs.Common.{◌≡◌, ℕ, suc, ◌-◌, ◌*◌, ◌/◌, ◌%◌, ◌<◌, ◌≤◌, ◌≢◌, List, length, set, slice_index, refl, sym, subst, ap, ◌∙◌, arith, length-set, get_or-set_same}
use Rattle.pm_perm.specs.Permutation.{IsPermutationList}
use Rattle.pm_perm.specs.Lists.{IsInverseList}
use Rattle.pm_remy.specs.Tree.{Tree, leaf, fork, name, leaves}
use Rattle.pm_remy.specs.Growth.{grafted, grown_by}
use Rattle.pm_remy.specs.steps.Linked.{IsHung, IsLinked, IsTreeIn, ArePlaces, IsTied, IsHeld}
use Rattle.pm_remy.proofs.Counts.{IsApart, apart-left, apart-right, apart_counted, IsBelow, below-left, below-right, below_counted}
use Rattle.pm_remy.proofs.Linking.{tree-below, sides-apart, fork-below}
use Rattle.pm_remy.proofs.Grown.{grown_by-zero, grown_by-suc}
use Rattle.pm_remy.proofs.Stepping.{counted-in, placed-in, links_grown, places_grown, grown-left, grown-right}
use Rattle.pm_remy.proofs.Unwinding.{start-in}

length-links : (L : List ℕ) (p f x y : ℕ) → length (links_grown L p f x y) ≡ length L
length-links L p f x y = omega (arith, length-set (set (set L p f) f x) (suc f) y, length-set (set L p f) f x, length-set L p f)

length-places : (P : List ℕ) (p f x y : ℕ) → length (places_grown P p f x y) ≡ length P
length-places P p f x y = omega (arith, length-set (set (set P f p) x f) y (suc f), length-set (set P f p) x f, length-set P f p)

-- the places after a new leaf are those of the tree with it
pub placed-right : (P : List ℕ) (t : Tree) (k a : ℕ) → 0 < k → a < 2 * k - 1 → 2 * k < length P → ArePlaces P t → leaves t ≡ k
    → ArePlaces (places_grown P (slice_index P a) (2 * k - 1) a (2 * k)) (grafted a 0 k t)
placed-right P t k a positive node space h e =
    record {
      links = links_grown h.links (slice_index P a) (2 * k - 1) a (2 * k);
      long = length-links h.links (slice_index P a) (2 * k - 1) a (2 * k) ∙ (h.long ∙ sym (length-places P (slice_index P a) (2 * k - 1) a (2 * k)));
      held = grown-right h.links P t k a positive node (omega (arith, h.long)) space h.held e;
    }

pub placed-left : (P : List ℕ) (t : Tree) (k a s : ℕ) → s ≢ 0 → 0 < k → a < 2 * k - 1 → 2 * k < length P → ArePlaces P t → leaves t ≡ k
    → ArePlaces (places_grown P (slice_index P a) (2 * k - 1) (2 * k) a) (grafted a s k t)
placed-left P t k a s other positive node space h e =
    record {
      links = links_grown h.links (slice_index P a) (2 * k - 1) (2 * k) a;
      long = length-links h.links (slice_index P a) (2 * k - 1) (2 * k) a ∙ (h.long ∙ sym (length-places P (slice_index P a) (2 * k - 1) (2 * k) a));
      held = grown-left h.links P t k a s other positive node (omega (arith, h.long)) space h.held e;
    }

-- the first tree
pub start-placed : (P cs : List ℕ) → 0 < length P → slice_index P 0 ≡ 0 → ArePlaces P (grown_by cs 0)
start-placed P cs q up =
    subst (λ (t : Tree). ArePlaces P t) (sym (grown_by-zero cs)) (record { links = set P 0 0; long = length-set P 0 0; held = start-in (set P 0 0) P (omega (arith, length-set P 0 0)) q (get_or-set_same P 0 0 0 q) up })

-- the next tree
pub placed-more : (P cs : List ℕ) (k : ℕ) → ArePlaces P (grafted (slice_index cs k / 2) (slice_index cs k % 2) (suc k) (grown_by cs k)) → ArePlaces P (grown_by cs (suc k))
placed-more P cs k h = subst (λ (t : Tree). ArePlaces P t) (sym (grown_by-suc cs k)) h

-- all names stand, so that their places are a permutation
pub places-permuted : (P : List ℕ) (t : Tree) → ArePlaces P t → suc (length P) ≡ 2 * leaves t → IsPermutationList P
places-permuted P t h e =
    record {
      stays = λ b q. (let at = placed-in h.links P t (leaves t) b h.held refl (omega arith) in omega (arith, at.low));
      injective = λ b c q i same. (
          sym (placed-in h.links P t (leaves t) b h.held refl (omega arith)).hangs
          ∙ (ap (slice_index h.links) same ∙ (placed-in h.links P t (leaves t) c h.held refl (omega arith)).hangs)
          );
    }

-- a node that hangs at its place hangs there in the inverse of the places
hung-inverse : (links others places : ℕ → ℕ) (bound q b : ℕ) → ((c : ℕ) → c < bound → others (places c) ≡ c) → b < bound → IsHung links places q b → IsHung others places q b
hung-inverse links others places bound q b back i h = record { down = ap others (sym h.up) ∙ back b i; up = h.up }

linked-inverse : (links others places : ℕ → ℕ) (k : ℕ) (t : Tree) → ((c : ℕ) → c < 2 * k - 1 → others (places c) ≡ c) → IsBelow k t → IsLinked links places t
    → IsLinked others places t
linked-inverse links others places k (leaf m) back h linked = tt
linked-inverse links others places k (fork l r) back h linked =
    let left = below-left k l r h in
    let right = below-right k l r h in (
      hung-inverse links others places (2 * k - 1) (name (fork l r)) (name l) back (tree-below k l left) linked.0,
      hung-inverse links others places (2 * k - 1) (suc (name (fork l r))) (name r) back (tree-below k r right) linked.1,
      linked-inverse links others places k l back left linked.2,
      linked-inverse links others places k r back right linked.3,
    )

-- the links of a tree are the inverse of its places
pub inverse-in : (P M : List ℕ) (t : Tree) → ArePlaces P t → suc (length P) ≡ 2 * leaves t → IsInverseList P M → IsTreeIn M P t
inverse-in P M t h e inverse =
    let k = leaves t in
    let L = h.links in
    let below = below_counted k t (counted-in L P t k h.held refl) in
    let back : (c : ℕ) → c < 2 * k - 1 → slice_index M (slice_index P c) ≡ c = λ c q. inverse.undoes c (omega arith) in
    record {
      rooted = record {
        root = hung-inverse (slice_index L) (slice_index M) (slice_index P) (2 * k - 1) 0 (name t) back (tree-below k t below) h.held.rooted.root;
        within = linked-inverse (slice_index L) (slice_index M) (slice_index P) k t back below h.held.rooted.within;
      };
      once = h.held.once;
      links_room = omega (arith, inverse.same_length);
      places_room = h.held.places_room;
    }

-- a linked tree is held by its links
tied-linked : (links places : ℕ → ℕ) (k bound : ℕ) (t : Tree) → 2 * k ≤ suc bound → IsBelow k t → IsApart t → IsLinked links places t → IsTied links bound (name t) t
tied-linked links places k bound (leaf m) q h w linked = refl
tied-linked links places k bound (fork l r) q h w linked = (
  omega (arith, sides-apart l r w),
  omega (arith, fork-below k l r h w),
  subst (λ (x : ℕ). IsTied links bound x l) (sym linked.0.down) (tied-linked links places k bound l q (below-left k l r h) (apart-left l r w) linked.2),
  subst (λ (x : ℕ). IsTied links bound x r) (sym linked.1.down) (tied-linked links places k bound r q (below-right k l r h) (apart-right l r w) linked.3),
)

pub held-in : (L P : List ℕ) (t : Tree) → IsTreeIn L P t → IsHeld L t
held-in L P t h =
    let k = leaves t in
    let counted = counted-in L P t k h refl in
    record {
      tied = subst (λ (x : ℕ). IsTied (slice_index L) (length L) x t) (sym h.rooted.root.down)
          (tied-linked (slice_index L) (slice_index P) k (length L) t h.links_room (below_counted k t counted) (apart_counted k t counted) h.rooted.within);
      once = h.once;
      room = h.links_room;
    }
