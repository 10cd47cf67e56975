-- A walk over a word that keeps the stems of each open node, and the least node with other than two stems among those that were
-- closed.
use Rattle.std.proofs.Common.{◌≡◌, ℕ, suc, ◌≤◌, ◌<◌, inl, inr, List, [], ◌∷◌, ◌++◌, length, reverse, slice_index, Option, Some, None, MatchOption, option_to_list, refl, ap, ◌∙◌, sym, subst, arith, eq-eqb, ne_eqb}
use Rattle.std.proofs.lemmas.Bool.{cases_eq}
use Rattle.std.proofs.lemmas.List.{length-reverse}
use Rattle.pm_brackets.specs.declared.letters.TheConstants.{OPEN, CLOSE}
use Rattle.pm_brackets.specs.First.{IsFirst}
use Rattle.pm_brackets.specs.Noted.{IsNoted}
use Rattle.pm_brackets.specs.Word.{IsMatched, IsOther}
use Rattle.pm_brackets.proofs.Least.{IsLeastOf}
use Rattle.pm_brackets.proofs.Levels.{inside}
use Rattle.pm_brackets.proofs.NodeWalk as nodes
use Rattle.pm_brackets.proofs.NodeWalk.{IsDone, least_close, least_end, least_open, least_other, least_start, reverse_pop, reverse_push}
use Rattle.pm_brackets.proofs.OwnLetters.{none_before, own_before, own_before_is, own_bound, own_elsewhere, own_fails, own_here, own_whole}
use Rattle.pm_tri.specs.declared.letters.TheConstants.{STEM}
use Rattle.pm_tri.specs.declared.nodes.OpenNode.{OpenNode}
use Rattle.pm_tri.specs.StemTree.{BreaksStems, HasStems, IsInOrder, IsNode, contour, is_stem, stems}
use Rattle.pm_tri.proofs.StemLetters.{stem_is_other}

abbrev place_of : OpenNode → ℕ
place_of node = node.place

-- the stems of a node that were read before letter i, whichever nodes are open inside it
abbrev IsCounted : List ℕ → ℕ → OpenNode → ℕ → Type 0
IsCounted word depth node i = node.stems ≡ own_before is_stem (contour word) node.place (suc i)

-- the nodes outside the innermost one are given the nearest first
pub record IsWalk (word : List ℕ) (node : OpenNode) (above : List OpenNode) (found : Option ℕ) (i : ℕ) : Type 0 where
  pub walk : nodes.IsWalk OpenNode place_of STEM word (IsCounted word) node above i
  pub least : IsLeastOf (BreaksStems (contour word)) (IsDone OpenNode place_of (contour word) node above i) found

pub walk_start : (word : List ℕ) (node : OpenNode) (found : Option ℕ) → node.place ≡ 0 → node.stems ≡ 1 → found ≡ None → IsWalk word node [] found 0
walk_start word node found p z f =
    let x = own_here is_stem (contour word) 0 0 refl refl in
    let y = own_bound is_stem (contour word) 0 0 in
    let v = ap (λ (q : ℕ). own_before is_stem (contour word) q 1) p in
    record {
      walk = nodes.walk_start OpenNode place_of STEM word (IsCounted word) node stem_is_other p (omega (arith, v, x, y, z));
      least = least_start OpenNode place_of STEM word (BreaksStems (contour word)) node found p f;
    }

-- a node with one stem more
pub record HasStem (node next : OpenNode) : Type 0 where
  pub same_place : next.place ≡ node.place
  pub one_more : next.stems ≡ suc node.stems

pub walk_stem : (word : List ℕ) (node next : OpenNode) (above : List OpenNode) (found : Option ℕ) (i : ℕ) → slice_index word i ≡ STEM → HasStem node next → IsWalk word node above found i → IsWalk word next above found (suc i)
walk_stem word node next above found i s h w =
    let o : IsOther (slice_index word i) = subst IsOther (sym s) stem_is_other in
    let at = nodes.walk_node OpenNode place_of STEM word (IsCounted word) node above i w.walk in
    let x = own_here is_stem (contour word) node.place (suc i) (eq-eqb (slice_index word i) STEM s) at in
    let v = ap (λ (q : ℕ). own_before is_stem (contour word) q (suc (suc i))) h.same_place in
    record {
      walk = nodes.walk_other OpenNode place_of STEM word (IsCounted word) node next above i o h.same_place (let c = w.walk.here.holds in let z = h.one_more in omega (arith, c, x, v, z))
          (λ n d l c. c ∙ sym (own_elsewhere is_stem (contour word) n.place (suc i) (λ e. omega (arith, e, at, l)))) w.walk;
      least = least_other OpenNode place_of STEM word (BreaksStems (contour word)) node next above found i o h.same_place w.least;
    }

-- a bracket is no stem
same_stems : (word : List ℕ) (node : OpenNode) (i : ℕ) → (slice_index word i ≡ STEM → ⊥) → IsCounted word 0 node i → IsCounted word 0 node (suc i)
same_stems word node i s c = c ∙ sym (own_fails is_stem (contour word) node.place (suc i) (ne_eqb (slice_index word i) STEM s))

pub walk_open : (word : List ℕ) (node child : OpenNode) (above : List OpenNode) (found : Option ℕ) (i : ℕ) → slice_index word i ≡ OPEN → child.place ≡ suc i → child.stems ≡ 0 → IsWalk word node above found i → IsWalk word child (node ∷ above) found (suc i)
walk_open word node child above found i o p z w =
    let x = none_before is_stem (contour word) (suc i) (omega arith) in
    let v = ap (λ (q : ℕ). own_before is_stem (contour word) q (suc (suc i))) p in
    record {
      walk = nodes.walk_open OpenNode place_of STEM word (IsCounted word) node node child above i o refl p (same_stems word node i (λ f. omega arith) w.walk.here.holds) (omega (arith, x, v, z))
          (λ n d l c. same_stems word n i (λ f. omega arith) c) w.walk;
      least = least_open OpenNode place_of STEM word (BreaksStems (contour word)) node node child above found i refl p w.least;
    }

-- a node all of whose stems were read keeps the rule where their number is two
kept : (word : List ℕ) (node : OpenNode) → node.stems ≡ stems (contour word) node.place → node.stems ≡ 2 → BreaksStems (contour word) node.place → ⊥
kept word node whole two b = b.breaks (sym whole ∙ two)

broken : (word : List ℕ) (node : OpenNode) → IsNode (contour word) node.place → node.stems ≡ stems (contour word) node.place → (node.stems ≡ 2 → ⊥) → BreaksStems (contour word) node.place
broken word node n whole k = record { is_node = n; breaks = λ two. k (whole ∙ two) }

pub walk_close : (word : List ℕ) (node parent : OpenNode) (above : List OpenNode) (found new : Option ℕ) (i : ℕ) → slice_index word i ≡ CLOSE → IsNoted (node.stems ≡ 2) found new node.place → IsWalk word node (parent ∷ above) found i → IsWalk word parent above new (suc i)
walk_close word node parent above found new i c n w =
    let gone = nodes.walk_gone OpenNode place_of STEM word (IsCounted word) node parent above i c w.walk in
    let l = inside word i CLOSE (omega arith) c in
    let whole : node.stems ≡ stems (contour word) node.place =
    same_stems word node i (λ f. omega arith) w.walk.here.holds
    ∙ sym (own_whole is_stem (contour word) node.place (suc (suc i)) (let b = w.walk.before in omega (arith, b)) (omega arith) gone) in
    record {
      walk = nodes.walk_close OpenNode place_of STEM word (IsCounted word) node parent above i c (λ m d h. same_stems word m i (λ f. omega arith) h) w.walk;
      least = least_close OpenNode place_of STEM word (BreaksStems (contour word)) (node.stems ≡ 2) node parent above found new i c (kept word node whole) (broken word node w.walk.here.is_node whole) n w.least;
    }

-- where no node breaks the rule, all keep it
stems_from : (word : List ℕ) → ((k : ℕ) → BreaksStems (contour word) k → ⊥) → HasStems word
stems_from word h = λ k n.
    elim (cases_eq (stems (contour word) k) 2) [ inl d ↦ d | inr b ↦ absurd (h k (record { is_node = n; breaks = b })) ]

pub walk_end : (word : List ℕ) (node : OpenNode) (above : List OpenNode) (found new : Option ℕ) (i : ℕ) → i ≡ length word → IsMatched word → IsNoted (node.stems ≡ 2) found new node.place → IsWalk word node above found i → MatchOption new (HasStems word) (IsFirst (BreaksStems (contour word)))
walk_end word node above found new i e m n w =
    let whole : node.stems ≡ stems (contour word) node.place =
    w.walk.here.holds ∙ ap (λ (k : ℕ). own_before is_stem (contour word) node.place (suc k)) e ∙ own_before_is is_stem (contour word) node.place (suc (length word)) in
    least_end OpenNode place_of STEM word (BreaksStems (contour word)) (node.stems ≡ 2) (HasStems word) node above found new i e
    (nodes.walk_end OpenNode place_of STEM word (IsCounted word) node above i e m w.walk) (λ k b. b.is_node) (stems_from word) (kept word node whole) (broken word node w.walk.here.is_node whole) n w.least

-- a `)` has a parent to go back to
pub has_parent : (word : List ℕ) (node : OpenNode) (above : List OpenNode) (found : Option ℕ) (i : ℕ) → IsMatched word → slice_index word i ≡ CLOSE → IsWalk word node above found i → 0 < length above
has_parent word node above found i m o w = nodes.walk_parent OpenNode place_of STEM word (IsCounted word) node above i m o w.walk

-- the walk with the nodes above in the order in which they came
pub record IsWalking (word : List ℕ) (node : OpenNode) (parents : List OpenNode) (found : Option ℕ) (i : ℕ) : Type 0 where
  pub walk : IsWalk word node (reverse parents) found i

-- the same state under other names
pub walking_same : (word : List ℕ) (node node' : OpenNode) (xs ys : List OpenNode) (found found' : Option ℕ) (i j : ℕ) → node' ≡ node → ys ≡ xs → found' ≡ found → j ≡ i → IsWalking word node xs found i → IsWalking word node' ys found' j
walking_same word node node' xs ys found found' i j e f g h w =
    let P : OpenNode → Type 0 = λ n. IsWalking word n xs found i in
    let Q : List OpenNode → Type 0 = λ zs. IsWalking word node' zs found i in
    let R : Option ℕ → Type 0 = λ x. IsWalking word node' ys x i in
    let S : ℕ → Type 0 = λ k. IsWalking word node' ys found' k in
    subst S (sym h) (subst R (sym g) (subst Q (sym f) (subst P (sym e) w)))

pub walking_start : (word : List ℕ) (node : OpenNode) (found : Option ℕ) (xs : List OpenNode) → node.place ≡ 0 → node.stems ≡ 1 → found ≡ None → xs ≡ [] → IsWalking word node xs found 0
walking_start word node found xs p z f n =
    let P : List OpenNode → Type 0 = λ ys. IsWalking word node ys found 0 in
    subst P (sym n) (record { walk = walk_start word node found p z f })

pub walking_stem : (word : List ℕ) (node next : OpenNode) (xs : List OpenNode) (found : Option ℕ) (i : ℕ) → slice_index word i ≡ STEM → next.place ≡ node.place → next.stems ≡ suc node.stems → IsWalking word node xs found i → IsWalking word next xs found (suc i)
walking_stem word node next xs found i s p z w = record { walk = walk_stem word node next (reverse xs) found i s (record { same_place = p; one_more = z }) w.walk }

pub walking_open : (word : List ℕ) (node child : OpenNode) (xs ys : List OpenNode) (found : Option ℕ) (i : ℕ) → slice_index word i ≡ OPEN → ys ≡ xs ++ node ∷ [] → child.place ≡ suc i → child.stems ≡ 0 → IsWalking word node xs found i → IsWalking word child ys found (suc i)
walking_open word node child xs ys found i o e p z w =
    let g : node ∷ reverse xs ≡ reverse ys = sym (reverse_push xs node) ∙ ap reverse (sym e) in
    let P : List OpenNode → Type 0 = λ zs. IsWalk word child zs found (suc i) in
    record { walk = subst P g (walk_open word node child (reverse xs) found i o p z w.walk) }

pub walking_close : (word : List ℕ) (node parent : OpenNode) (xs ys : List OpenNode) (r : Option OpenNode) (found new : Option ℕ) (i : ℕ) → slice_index word i ≡ CLOSE → IsNoted (node.stems ≡ 2) found new node.place → xs ≡ ys ++ option_to_list r → r ≡ Some parent → IsWalking word node xs found i → IsWalking word parent ys new (suc i)
walking_close word node parent xs ys r found new i c n e s w =
    let P : List OpenNode → Type 0 = λ zs. IsWalk word node zs found i in
    record { walk = walk_close word node parent (reverse ys) found new i c n (subst P (reverse_pop xs ys r parent e s) w.walk) }

pub walking_end : (word : List ℕ) (node : OpenNode) (xs : List OpenNode) (found new : Option ℕ) (i : ℕ) → i ≡ length word → IsInOrder word → IsNoted (node.stems ≡ 2) found new node.place → IsWalking word node xs found i → MatchOption new (HasStems word) (IsFirst (BreaksStems (contour word)))
walking_end word node xs found new i e m n w = walk_end word node (reverse xs) found new i e m.matched n w.walk

-- room for one stem more
pub walking_room : (word : List ℕ) (node : OpenNode) (xs : List OpenNode) (found : Option ℕ) (i : ℕ) → IsWalking word node xs found i → node.stems ≤ suc i
walking_room word node xs found i w =
    let a = w.walk.walk.here.holds in
    let b = own_bound is_stem (contour word) node.place (suc i) in
    omega (arith, a, b)

pub walking_parent : (word : List ℕ) (node : OpenNode) (xs : List OpenNode) (found : Option ℕ) (i : ℕ) → IsInOrder word → slice_index word i ≡ CLOSE → IsWalking word node xs found i → 0 < length xs
walking_parent word node xs found i m o w =
    let a = has_parent word node (reverse xs) found i m.matched o w.walk in
    let b = length-reverse xs in
    omega (arith, a, b)
