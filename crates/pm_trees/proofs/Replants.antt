-- Blossoming trees that are replanted.
use Rattle.std.proofs.Common.{◌≡◌, ℕ, zero, suc, ◌<◌, List, length, All, IsTrue, refl, sym, ◌∙◌, subst, arith}
use Rattle.std.proofs.lemmas.List.Elements.{All-tail}
use Rattle.pm_trees.specs.declared.letters.TheConstants.{LEAF}
use Rattle.pm_brackets.specs.declared.letters.TheConstants.{OPEN}
use Rattle.pm_trees.specs.Word.{contour, is_letter, IsInOrder}
use Rattle.pm_trees.specs.Leaves.{IsLeafAt}
use Rattle.pm_trees.specs.Blossoming.{IsBlossoming, leaves}
use Rattle.pm_brackets.specs.Ring.{IsTurned}
use Rattle.pm_trees.specs.Replanted.{IsReplanted}
use Rattle.pm_trees.specs.Replanting.{IsAlike, leaf_after, EachLeafIsReplanted, ReplantedIsUnique, ReplantedIsAlike, LeavesAreTurned, ReplantingIsUndone}
use Rattle.pm_brackets.proofs.Tally.{tally, tally_is, tally_no}
use Rattle.pm_brackets.proofs.Dyck.{IsDyck, matched_from_dyck}
use Rattle.pm_brackets.proofs.Rings.{ring_turned, both_stay, letters_stay, tallies_stay}
use Rattle.pm_brackets.proofs.Replants.{same_rings, matched_inside, number_back, planted_unique, planted_exists, numbers_turned, planting_undone}
use Rattle.pm_trees.proofs.LeafTurns.{leaf_within}
use Rattle.pm_trees.proofs.FourLetters.{leaf_is_other}
use Rattle.pm_trees.proofs.Rings.{weights_stay, bad, none_bad, all_good, of_degree, nodes_weight}
use Rattle.pm_trees.proofs.Weights.{weight}

pub replanted_unique : ReplantedIsUnique
replanted_unique word leaf one other t r s = planted_unique LEAF leaf_is_other (omega arith) word leaf one other t.in_order.matched r s

pub each_leaf : EachLeafIsReplanted
each_leaf word leaf t l = planted_exists LEAF leaf_is_other (omega arith) word leaf t.in_order.matched l

pub leaves_turned : LeavesAreTurned
leaves_turned word leaf replanted t r number place l h = numbers_turned LEAF leaf_is_other (omega arith) word leaf replanted t.in_order.matched r number place l h

pub replanting_undone : ReplantingIsUndone
replanting_undone word leaf replanted t r = planting_undone LEAF leaf_is_other (omega arith) word leaf replanted t.in_order.matched r

-- and that number leads back to the number of the leaf
pub leaf_back : (word other : List ℕ) (leaf : ℕ) → leaves other ≡ leaves word → leaf < leaves word → leaf_after other (leaf_after word leaf 0) 0 ≡ leaf
leaf_back word other leaf same l = rw same (number_back (leaves word) leaf l)

-- what stays of a tree whose ring is read from another leaf on
record IsKept (word ring : List ℕ) : Type 0 where
  dyck : IsDyck ring
  letters : All (λ x. IsTrue (is_letter x)) ring
  same : (z : ℕ) → tally z ring ≡ tally z (contour word)
  weights : (f : ℕ → ℕ → ℕ) → weight f ring ≡ weight f (contour word)

kept_ring : (word other : List ℕ) (start : ℕ) → IsInOrder word → start < length (contour word) → IsTurned (contour word) start (contour other) → IsKept word (contour other)
kept_ring word other start o l t =
    let Letters : List ℕ → Type 0 = All (λ x. IsTrue (is_letter x)) in
    let Tallies : List ℕ → Type 0 = λ ring. (z : ℕ) → tally z ring ≡ tally z (contour word) in
    let Weights : List ℕ → Type 0 = λ ring. (f : ℕ → ℕ → ℕ) → weight f ring ≡ weight f (contour word) in
    let Rest : List ℕ → Type 0 = λ ring. Tallies ring × Weights ring in
    let stay = both_stay Letters Rest (letters_stay (λ x. is_letter x) refl refl)
    (both_stay Tallies Weights (tallies_stay (λ z. tally z (contour word))) (weights_stay (λ f. weight f (contour word)))) in
    let h = ring_turned (λ ring. Letters ring × Rest ring) stay LEAF leaf_is_other word start o.matched (ring_letters word o, (λ z. refl, λ f. refl)) in
    let same : h.ring ≡ contour other = same_rings LEAF leaf_is_other word h.ring (contour other) start o.matched l h.turned t in
    subst (IsKept word) same (record { dyck = h.dyck; letters = h.holds.0; same = h.holds.1.0; weights = h.holds.1.1 }) where
      ring_letters : (word : List ℕ) → IsInOrder word → All (λ x. IsTrue (is_letter x)) (contour word)
      ring_letters word o zero d l = refl
      ring_letters word o (suc k) d l = o.letters k d (omega arith)

kept_alike : (word other : List ℕ) → IsBlossoming word → length other ≡ length word → IsKept word (contour other) → IsAlike word other
kept_alike word other t e h =
    let good = all_good other (h.weights bad ∙ none_bad word t) in
    let a = tally_no OPEN LEAF other (λ w. omega arith) in
    let b = tally_no OPEN LEAF word (λ w. omega arith) in
    let c = h.same OPEN in
    let d = tally_is OPEN other in
    let f = tally_is OPEN word in
    record {
      blossoming = record {
        in_order = record {
          letters = All-tail (λ x. IsTrue (is_letter x)) LEAF other h.letters;
          matched = matched_inside LEAF leaf_is_other other (matched_from_dyck (contour other) h.dyck);
        };
        short = let s = t.short in omega arith;
        degrees = λ node n. (good node n).degree_is;
        buds = λ node n. (good node n).buds_are;
      };
      letters = e;
      leaves_are = sym (tally_is LEAF (contour other)) ∙ h.same LEAF ∙ tally_is LEAF (contour word);
      nodes_are = omega (arith, a, b, c, d, f);
      degrees = λ k. nodes_weight other k ∙ h.weights (of_degree k) ∙ sym (nodes_weight word k);
    }

pub replanted_alike : ReplantedIsAlike
replanted_alike word leaf replanted t r =
    let l = leaf_within (contour word) leaf r.start r.is_start in
    let e = r.is_turned.as_long in
    kept_alike word replanted t (omega arith) (kept_ring word replanted r.start t.in_order l r.is_turned)

-- the contour read from the leaf of a number on
pub replanted_from : (word text : List ℕ) (leaf start : ℕ) (letters : List ℕ) → text ≡ word → IsLeafAt (contour word) leaf start → IsTurned (contour text) start (contour letters) → IsReplanted word leaf letters
replanted_from word text leaf start letters e h t =
    let P : List ℕ → Type 0 = λ xs. IsTurned (contour xs) start (contour letters) in
    record { start = start; is_start = h; is_turned = subst P e t }

pub alike_from : (word text : List ℕ) (leaf start : ℕ) (letters : List ℕ) → IsBlossoming word → text ≡ word → IsLeafAt (contour word) leaf start → IsTurned (contour text) start (contour letters) → IsAlike word letters
alike_from word text leaf start letters b e h t = replanted_alike word leaf letters b (replanted_from word text leaf start letters e h t)
