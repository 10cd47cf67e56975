-- A stem tree has twice as many stems as nodes: they are counted node by node.
use Rattle.std.proofs.Common.{◌≡◌, ℕ, zero, suc, ◌+◌, ◌<◌, ◌==◌, ◌&&◌, eqb, cond, inl, inr, Bool, true, false, List, length, slice_index, refl, ap, ◌∙◌, sym, arith, eq-eqb, ne_eqb}
use Rattle.std.proofs.lemmas.Bool.{cases_eq}
use Rattle.pm_perm.proofs.Counts.{count_below-none}
use Rattle.pm_perm.proofs.Sums.{count_below-sum, led_sum, led_sum-is, sum_below, sum_below-led, sum_below-one, sum_below-plus, sum_below-same}
use Rattle.pm_brackets.specs.declared.letters.TheConstants.{OPEN}
use Rattle.pm_brackets.specs.Word.{count}
use Rattle.pm_brackets.proofs.LetterTurns.{seen_all}
use Rattle.pm_brackets.proofs.OpenBrackets.{open_is_before}
use Rattle.pm_brackets.proofs.OwnLetters.{not_own}
use Rattle.pm_brackets.proofs.Levels.{seen, seen_no, seen_none, seen_yes}
use Rattle.pm_brackets.proofs.Tally.{tally_is, tally_no}
use Rattle.pm_tri.specs.declared.letters.TheConstants.{STEM}
use Rattle.pm_tri.specs.StemTree.{IsStemTree, contour, is_stem, is_stem_of, node_at, stems}
use Rattle.pm_tri.specs.Replanting.{StemsAreTwiceNodes}
use Rattle.pm_tri.proofs.NodeTurns.{at_is_node}
use Rattle.pm_tri.proofs.StemLetters.{stem_is_other}

-- one where the letter stands
pub one_at : ℕ → List ℕ → ℕ → ℕ
one_at letter places k = cond (slice_index places k == letter) 1 0

one_is : (letter : ℕ) (places : List ℕ) (k : ℕ) → one_at letter places k ≡ cond {A = ℕ} (slice_index places k == letter) 1 0
unfolding one_at
one_is letter places k = refl

one_yes : (letter : ℕ) (places : List ℕ) (k : ℕ) → slice_index places k ≡ letter → one_at letter places k ≡ 1
unfolding one_at
one_yes letter places k e = rw (eq-eqb (slice_index places k) letter e) refl

one_no : (letter : ℕ) (places : List ℕ) (k : ℕ) → (slice_index places k ≡ letter → ⊥) → one_at letter places k ≡ 0
unfolding one_at
one_no letter places k e = rw (ne_eqb (slice_index places k) letter e) refl

seen_sum : (letter : ℕ) (places : List ℕ) (n : ℕ) → 0 < letter → seen letter places n ≡ sum_below (one_at letter places) n
seen_sum letter places zero some = seen_none letter places
seen_sum letter places (suc n) some =
    let h = seen_sum letter places n some in
    elim (cases_eq (slice_index places n) letter) [
      | inl e ↦ (let a = seen_yes letter places n some e in let b = one_yes letter places n e in omega (arith, h, a, b))
      | inr e ↦ (let a = seen_no letter places n e in let b = one_no letter places n e in omega (arith, h, a, b))
    ]

count_sum : (letter : ℕ) (places : List ℕ) → 0 < letter → count letter places ≡ sum_below (one_at letter places) (length places)
count_sum letter places some = sym (seen_all letter some places) ∙ seen_sum letter places (length places) some

-- the stems of a node as a sum
if_both : (s n : Bool) → cond {A = ℕ} n (cond s 1 0) 0 ≡ cond {A = ℕ} (s && n) 1 0
if_both true true = refl
if_both true false = refl
if_both false true = refl
if_both false false = refl

led_stems : (places : List ℕ) (v : ℕ) → led_sum (length places) (node_at places) (one_at STEM places) v ≡ stems places v
unfolding one_at
led_stems places v =
    led_sum-is (length places) (node_at places) (one_at STEM places) v
    ∙ sum_below-same (λ k. cond (eqb (node_at places k) v) (one_at STEM places k) 0) (λ k. cond (is_stem_of places v k) 1 0) (length places) (λ k l. if_both (slice_index places k == STEM) (node_at places k == v))
    ∙ sym (count_below-sum (is_stem_of places v) (length places))

-- two for each node: the root node, and each `(`
of_node : List ℕ → ℕ → ℕ
of_node places v = cond (eqb 0 v) 2 0 + (one_at OPEN places v + one_at OPEN places v)

of_node_is : (places : List ℕ) (v : ℕ) → of_node places v ≡ cond {A = ℕ} (eqb 0 v) 2 0 + (one_at OPEN places v + one_at OPEN places v)
unfolding of_node
of_node_is places v = refl

stems_are : (word : List ℕ) (v : ℕ) → IsStemTree word → stems (contour word) v ≡ of_node (contour word) v
stems_are word v t =
    let a = of_node_is (contour word) v in
    elim (cases_eq 0 v) [
      | inl z ↦
          let two = t.stems v (inl (sym z)) in
          let b : cond {A = ℕ} (eqb 0 v) 2 0 ≡ 2 = rw (eq-eqb 0 v z) refl in
          let c = one_no OPEN (contour word) v (λ e. let f : slice_index (contour word) v ≡ STEM = ap (slice_index (contour word)) (sym z) in omega (arith, e, f)) in
          omega (arith, two, a, b, c)
      | inr n ↦
          let b : cond {A = ℕ} (eqb 0 v) 2 0 ≡ 0 = rw (ne_eqb 0 v n) refl in
          elim (cases_eq (slice_index (contour word) v) OPEN) [
            | inl o ↦
                let two = t.stems v (inr o) in
                let c = one_yes OPEN (contour word) v o in
                omega (arith, two, a, b, c)
            | inr k ↦
                let none = count_below-none (is_stem_of (contour word) v) (length (contour word)) (λ p l. not_own is_stem (contour word) v p (λ e. elim (at_is_node word p t.in_order.matched) [
                  | inl z ↦ n (sym z ∙ e)
                  | inr o ↦ k (ap (slice_index (contour word)) (sym e) ∙ o)
                ])) in
                let c = one_no OPEN (contour word) v k in
                omega (arith, none, a, b, c)
          ]
    ]

-- twice as many stems as nodes
pub stems_count : StemsAreTwiceNodes
stems_count word t =
    let size = count_sum STEM (contour word) (omega arith) in
    let parts = sum_below-led (length (contour word)) (node_at (contour word)) (one_at STEM (contour word)) (λ k l. let h = open_is_before (contour word) k 0 in omega (arith, h, l)) in
    let each = sum_below-same (led_sum (length (contour word)) (node_at (contour word)) (one_at STEM (contour word))) (λ v. cond (eqb 0 v) 2 0 + (one_at OPEN (contour word) v + one_at OPEN (contour word) v)) (length (contour word))
    (λ v l. led_stems (contour word) v ∙ stems_are word v t ∙ of_node_is (contour word) v) in
    let plus = sum_below-plus (λ v. cond (eqb 0 v) 2 0) (λ v. one_at OPEN (contour word) v + one_at OPEN (contour word) v) (length (contour word)) in
    let twice = sum_below-plus (one_at OPEN (contour word)) (one_at OPEN (contour word)) (length (contour word)) in
    let root = sum_below-one 2 0 (length (contour word)) (omega arith) in
    let opens = count_sum OPEN (contour word) (omega arith) in
    let a = tally_is OPEN (contour word) in
    let b = tally_no OPEN STEM word stem_is_other.not_open in
    let c = tally_is OPEN word in
    omega (arith, size, parts, each, plus, twice, root, opens, a, b, c)
