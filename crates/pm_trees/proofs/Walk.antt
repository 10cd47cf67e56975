-- A walk over a word that keeps the letters of each open node, and the least bad nodes among those that were closed.
use Rattle.std.proofs.Common.{◌≡◌, ℕ, suc, ◌+◌, ◌*◌, ◌<◌, ◌⊎◌, ◌==◌, inl, inr, Bool, if◌then◌else◌, cond, List, [], ◌∷◌, ◌++◌, length, drop, reverse, slice_index, Option, Some, None, MatchOption, option_to_list, refl, ap, ◌∙◌, sym, subst, arith, eq-eqb, ne_eqb, ◌%◌}
use Rattle.std.proofs.lemmas.Bool.{cases_lt, cases_eq}
use Rattle.std.proofs.lemmas.List.{length-reverse}
use Rattle.pm_limits.specs.declared.TheConstants.{MAX_DEGREE}
use Rattle.pm_brackets.specs.declared.letters.TheConstants.{OPEN, CLOSE}
use Rattle.pm_brackets.specs.First.{IsFirst}
use Rattle.pm_brackets.specs.Noted.{IsNoted}
use Rattle.pm_brackets.specs.Word.{IsOther}
use Rattle.pm_brackets.specs.Node.{node_at, own}
use Rattle.pm_brackets.proofs.Least.{IsLeastOf}
use Rattle.pm_brackets.proofs.Levels.{inside}
use Rattle.pm_brackets.proofs.OwnLetters.{own_before, own_before_is, own_whole}
use Rattle.pm_brackets.proofs.NodeWalk.{IsDone, IsWalk, least_close, least_end, least_open, least_other, least_start, reverse_pop, reverse_push, walk_close, walk_end, walk_gone, walk_node, walk_open, walk_other, walk_parent, walk_start}
use Rattle.pm_trees.specs.declared.letters.TheConstants.{BUD, LEAF}
use Rattle.pm_trees.specs.declared.nodes.OpenNode.{OpenNode}
use Rattle.pm_trees.specs.declared.nodes.NodeFaults.{NodeFaults}
use Rattle.pm_trees.specs.Word.{contour, IsInOrder}
use Rattle.pm_trees.specs.Node.{IsNode, IsDegree, BreaksDegree, BreaksBuds, degree, buds}
use Rattle.pm_trees.specs.Blossoming.{HasBuds, HasDegrees}
use Rattle.pm_trees.proofs.FourLetters.{leaf_is_other}
use Rattle.pm_trees.proofs.OwnCounts.{HasCount, all_entries, count_child, count_close, count_elsewhere, count_here, count_room, count_start, count_whole, is_entry}

abbrev place_of : OpenNode → ℕ
place_of node = node.place

abbrev is_bud : ℕ → Bool
is_bud x = x == BUD

-- the entries and buds of a node that were read before letter i, whichever nodes are open inside it
pub record IsCounted (word : List ℕ) (d : ℕ) (node : OpenNode) (i : ℕ) : Type 0 where
  pub entries_are : HasCount is_entry word node.place node.entries i
  pub buds_are : HasCount is_bud word node.place node.buds i

-- the nodes outside the innermost one are kept in the order in which they came
pub record IsWalking (word : List ℕ) (node : OpenNode) (parents : List OpenNode) (faults : NodeFaults) (i : ℕ) : Type 0 where
  pub walk : IsWalk OpenNode place_of LEAF word (IsCounted word) node (reverse parents) i
  pub least_degree : IsLeastOf (BreaksDegree (contour word)) (IsDone OpenNode place_of (contour word) node (reverse parents) i) faults.degree
  pub least_buds : IsLeastOf (BreaksBuds (contour word)) (IsDone OpenNode place_of (contour word) node (reverse parents) i) faults.buds

-- a node with one entry more
pub record HasEntry (node next : OpenNode) (letter : ℕ) : Type 0 where
  pub same_place : next.place ≡ node.place
  pub one_more : next.entries ≡ suc node.entries
  pub a_bud : letter ≡ BUD → next.buds ≡ suc node.buds
  pub no_bud : (letter ≡ BUD → ⊥) → next.buds ≡ node.buds

pub entry_from : (node next : OpenNode) (letter : ℕ) → next ≡ record { place = node.place; entries = node.entries + 1; buds = (if letter == BUD then node.buds + 1 else node.buds) } → HasEntry node next letter
entry_from node next letter e = record {
  same_place = ap (λ (n : OpenNode). n.place) e;
  one_more = let a = ap (λ (n : OpenNode). n.entries) e in omega (arith, a);
  a_bud = λ h.
      let a = ap (λ (n : OpenNode). n.buds) e in
      let b : cond {A = ℕ} (letter == BUD) (node.buds + 1) node.buds ≡ node.buds + 1 = rw (eq-eqb letter BUD h) refl in
      omega (arith, a, b);
  no_bud = λ h.
      let a = ap (λ (n : OpenNode). n.buds) e in
      let b : cond {A = ℕ} (letter == BUD) (node.buds + 1) node.buds ≡ node.buds = rw (ne_eqb letter BUD h) refl in
      omega (arith, a, b);
}

-- at a letter of the node
counted_here : (word : List ℕ) (d : ℕ) (node next : OpenNode) (i : ℕ) → node_at (contour word) (suc i) ≡ node.place → (slice_index word i ≡ CLOSE → ⊥) → HasEntry node next (slice_index word i) → IsCounted word 0 node i → IsCounted word d next (suc i)
counted_here word d node next i at n h c =
    let E : ℕ → Type 0 = λ p. HasCount is_entry word p next.entries (suc i) in
    let B : ℕ → Type 0 = λ p. HasCount is_bud word p next.buds (suc i) in
    let a : cond {A = ℕ} (is_entry (slice_index word i)) 1 0 ≡ 1 = rw (ne_eqb (slice_index word i) CLOSE n) refl in
    let b : next.buds ≡ node.buds + cond {A = ℕ} (is_bud (slice_index word i)) 1 0 =
    elim (cases_eq (slice_index word i) BUD) [
      | inl y ↦ (let e : cond {A = ℕ} (is_bud (slice_index word i)) 1 0 ≡ 1 = rw (eq-eqb (slice_index word i) BUD y) refl in let f = h.a_bud y in omega (arith, e, f))
      | inr y ↦ (let e : cond {A = ℕ} (is_bud (slice_index word i)) 1 0 ≡ 0 = rw (ne_eqb (slice_index word i) BUD y) refl in let f = h.no_bud y in omega (arith, e, f))
    ] in
    record {
      entries_are = subst E (sym h.same_place) (count_here is_entry word node.place node.entries next.entries i at (let e = h.one_more in omega (arith, a, e)) c.entries_are);
      buds_are = subst B (sym h.same_place) (count_here is_bud word node.place node.buds next.buds i at b c.buds_are);
    }

-- the nodes outside it
counted_elsewhere : (word : List ℕ) (d e : ℕ) (node : OpenNode) (i : ℕ) → (node_at (contour word) (suc i) ≡ node.place → ⊥) → IsCounted word d node i → IsCounted word e node (suc i)
counted_elsewhere word d e node i n c = record {
  entries_are = count_elsewhere is_entry word node.place node.entries i n c.entries_are;
  buds_are = count_elsewhere is_bud word node.place node.buds i n c.buds_are;
}

counted_close : (word : List ℕ) (d e : ℕ) (node : OpenNode) (i : ℕ) → slice_index word i ≡ CLOSE → IsCounted word d node i → IsCounted word e node (suc i)
counted_close word d e node i o c = record {
  entries_are = count_close is_entry word node.place node.entries i refl o c.entries_are;
  buds_are = count_close is_bud word node.place node.buds i refl o c.buds_are;
}

-- all letters of a node were read
record IsWhole (word : List ℕ) (node : OpenNode) : Type 0 where
  degree_is : degree (contour word) node.place ≡ suc node.entries
  buds_is : buds (contour word) node.place ≡ node.buds
  is_node : IsNode (contour word) node.place

whole_from : (word : List ℕ) (node : OpenNode) (i : ℕ) → IsInOrder word → ((passes : ℕ → Bool) → own passes (contour word) node.place ≡ own_before passes (contour word) node.place (suc i)) → IsNode (contour word) node.place → IsCounted word 0 node i → IsWhole word node
whole_from word node i o all n c =
    let a = count_whole is_entry word node.place node.entries i refl o n (all is_entry) c.entries_are in
    let b = count_whole is_bud word node.place node.buds i refl o n (all is_bud) c.buds_are in
    let e = all_entries (drop node.place word) 0 in
    record { degree_is = omega (arith, a, e); buds_is = sym b; is_node = n }

degree_kept : (word : List ℕ) (node : OpenNode) → IsWhole word node → IsDegree (suc node.entries) → BreaksDegree (contour word) node.place → ⊥
degree_kept word node h g b = b.breaks (subst IsDegree (sym h.degree_is) g)

degree_broken : (word : List ℕ) (node : OpenNode) → IsWhole word node → (IsDegree (suc node.entries) → ⊥) → BreaksDegree (contour word) node.place
degree_broken word node h g = record { is_node = h.is_node; breaks = λ d. g (subst IsDegree h.degree_is d) }

buds_kept : (word : List ℕ) (node : OpenNode) → IsWhole word node → 2 * suc node.buds ≡ suc node.entries → BreaksBuds (contour word) node.place → ⊥
buds_kept word node h g b = let d = h.degree_is in let e = h.buds_is in b.breaks (omega (arith, d, e, g))

buds_broken : (word : List ℕ) (node : OpenNode) → IsWhole word node → (2 * suc node.buds ≡ suc node.entries → ⊥) → BreaksBuds (contour word) node.place
buds_broken word node h g = let d = h.degree_is in let e = h.buds_is in record { is_node = h.is_node; breaks = λ x. g (omega (arith, d, e, x)) }

-- the same state under other names
pub walking_same : (word : List ℕ) (node node' : OpenNode) (xs ys : List OpenNode) (faults faults' : NodeFaults) (i j : ℕ) → node' ≡ node → ys ≡ xs → faults' ≡ faults → j ≡ i → IsWalking word node xs faults i → IsWalking word node' ys faults' j
walking_same word node node' xs ys faults faults' i j e f g h w =
    let P : OpenNode → Type 0 = λ n. IsWalking word n xs faults i in
    let Q : List OpenNode → Type 0 = λ zs. IsWalking word node' zs faults i in
    let R : NodeFaults → Type 0 = λ x. IsWalking word node' ys x i in
    let S : ℕ → Type 0 = λ k. IsWalking word node' ys faults' k in
    subst S (sym h) (subst R (sym g) (subst Q (sym f) (subst P (sym e) w)))

-- nodes in the order in which they came, and the nearest first
turned : (word : List ℕ) (node : OpenNode) (xs : List OpenNode) (above : List OpenNode) (faults : NodeFaults) (i : ℕ) → reverse xs ≡ above → IsWalk OpenNode place_of LEAF word (IsCounted word) node above i
    → IsLeastOf (BreaksDegree (contour word)) (IsDone OpenNode place_of (contour word) node above i) faults.degree → IsLeastOf (BreaksBuds (contour word)) (IsDone OpenNode place_of (contour word) node above i) faults.buds → IsWalking word node xs faults i
turned word node xs above faults i e w d b =
    let P : List OpenNode → Type 0 = λ zs. IsWalk OpenNode place_of LEAF word (IsCounted word) node zs i in
    let D : List OpenNode → Type 0 = λ zs. IsLeastOf (BreaksDegree (contour word)) (IsDone OpenNode place_of (contour word) node zs i) faults.degree in
    let B : List OpenNode → Type 0 = λ zs. IsLeastOf (BreaksBuds (contour word)) (IsDone OpenNode place_of (contour word) node zs i) faults.buds in
    record { walk = subst P (sym e) w; least_degree = subst D (sym e) d; least_buds = subst B (sym e) b }

pub walking_start : (word : List ℕ) (node : OpenNode) (faults : NodeFaults) (xs : List OpenNode) → node.place ≡ 0 → node.entries ≡ 0 → node.buds ≡ 0 → faults.degree ≡ None → faults.buds ≡ None → xs ≡ [] → IsWalking word node xs faults 0
walking_start word node faults xs p z y e f n =
    turned word node xs [] faults 0 (ap reverse n) (walk_start OpenNode place_of LEAF word (IsCounted word) node leaf_is_other p (record { entries_are = count_start is_entry word node.place node.entries p z; buds_are = count_start is_bud word node.place node.buds p y }))
    (least_start OpenNode place_of LEAF word (BreaksDegree (contour word)) node faults.degree p e) (least_start OpenNode place_of LEAF word (BreaksBuds (contour word)) node faults.buds p f)

pub walking_other : (word : List ℕ) (node next : OpenNode) (xs : List OpenNode) (faults : NodeFaults) (i : ℕ) → i < length word → IsOther (slice_index word i) → HasEntry node next (slice_index word i) → IsWalking word node xs faults i → IsWalking word next xs faults (suc i)
walking_other word node next xs faults i l o h w =
    let e = h.same_place in
    let at = walk_node OpenNode place_of LEAF word (IsCounted word) node (reverse xs) i w.walk in
    record {
      walk = walk_other OpenNode place_of LEAF word (IsCounted word) node next (reverse xs) i o e (counted_here word 0 node next i at o.not_close h w.walk.here.holds) (λ n d l c. counted_elsewhere word (suc d) (suc d) n i (λ f. omega (arith, f, at, l)) c) w.walk;
      least_degree = least_other OpenNode place_of LEAF word (BreaksDegree (contour word)) node next (reverse xs) faults.degree i o e w.least_degree;
      least_buds = least_other OpenNode place_of LEAF word (BreaksBuds (contour word)) node next (reverse xs) faults.buds i o e w.least_buds;
    }

pub walking_open : (word : List ℕ) (node next child : OpenNode) (xs ys : List OpenNode) (faults : NodeFaults) (i : ℕ) → slice_index word i ≡ OPEN → HasEntry node next (slice_index word i) → ys ≡ xs ++ next ∷ [] → child.place ≡ suc i → child.entries ≡ 0 → child.buds ≡ 0 → IsWalking word node xs faults i → IsWalking word child ys faults (suc i)
walking_open word node next child xs ys faults i o h e p z y w =
    let f = h.same_place in
    let at = walk_node OpenNode place_of LEAF word (IsCounted word) node (reverse xs) i w.walk in
    turned word child ys (next ∷ reverse xs) faults (suc i) (ap reverse e ∙ reverse_push xs next)
    (walk_open OpenNode place_of LEAF word (IsCounted word) node next child (reverse xs) i o f p (counted_here word 1 node next i at (λ k. omega arith) h w.walk.here.holds)
    (record { entries_are = count_child is_entry word child.place child.entries i p z; buds_are = count_child is_bud word child.place child.buds i p y }) (λ n d l c. counted_elsewhere word (suc d) (suc (suc d)) n i (λ k. omega (arith, k, at, l)) c) w.walk)
    (least_open OpenNode place_of LEAF word (BreaksDegree (contour word)) node next child (reverse xs) faults.degree i f p w.least_degree)
    (least_open OpenNode place_of LEAF word (BreaksBuds (contour word)) node next child (reverse xs) faults.buds i f p w.least_buds)

pub walking_close : (word : List ℕ) (node parent : OpenNode) (xs ys : List OpenNode) (r : Option OpenNode) (faults new : NodeFaults) (i : ℕ) → IsInOrder word → slice_index word i ≡ CLOSE → IsNoted (IsDegree (suc node.entries)) faults.degree new.degree node.place → IsNoted (2 * suc node.buds ≡ suc node.entries) faults.buds new.buds node.place → xs ≡ ys ++ option_to_list r → r ≡ Some parent
    → IsWalking word node xs faults i → IsWalking word parent ys new (suc i)
walking_close word node parent xs ys r faults new i m o p q e s w =
    let g = reverse_pop xs ys r parent e s in
    let W : List OpenNode → Type 0 = λ zs. IsWalk OpenNode place_of LEAF word (IsCounted word) node zs i in
    let D : List OpenNode → Type 0 = λ zs. IsLeastOf (BreaksDegree (contour word)) (IsDone OpenNode place_of (contour word) node zs i) faults.degree in
    let B : List OpenNode → Type 0 = λ zs. IsLeastOf (BreaksBuds (contour word)) (IsDone OpenNode place_of (contour word) node zs i) faults.buds in
    let v = subst W g w.walk in
    let gone = walk_gone OpenNode place_of LEAF word (IsCounted word) node parent (reverse ys) i o v in
    let l = inside word i CLOSE (omega arith) o in
    let h = whole_from word node (suc i) m (λ passes. own_whole passes (contour word) node.place (suc (suc i)) (let b = v.before in omega (arith, b)) (omega (arith, l)) gone) v.here.is_node (counted_close word 0 0 node i o v.here.holds) in
    record {
      walk = walk_close OpenNode place_of LEAF word (IsCounted word) node parent (reverse ys) i o (λ n d c. counted_close word (suc d) d n i o c) v;
      least_degree = least_close OpenNode place_of LEAF word (BreaksDegree (contour word)) (IsDegree (suc node.entries)) node parent (reverse ys) faults.degree new.degree i o (degree_kept word node h) (degree_broken word node h) p (subst D g w.least_degree);
      least_buds = least_close OpenNode place_of LEAF word (BreaksBuds (contour word)) (2 * suc node.buds ≡ suc node.entries) node parent (reverse ys) faults.buds new.buds i o (buds_kept word node h) (buds_broken word node h) q (subst B g w.least_buds);
    }

degree_decides : (d : ℕ) → IsDegree d ⊎ (IsDegree d → ⊥)
degree_decides d =
    elim (cases_eq (d % 2) 0) [
      | inr n ↦ inr (λ h. n h.even)
      | inl e ↦ elim (cases_lt MAX_DEGREE d) [
        | inl l ↦ inr (λ h. let f = h.few in omega arith)
        | inr g ↦ inl (record { even = e; few = g })
      ]
    ]

pub degrees_from : (word : List ℕ) → ((k : ℕ) → BreaksDegree (contour word) k → ⊥) → HasDegrees word
degrees_from word h = λ k n.
    elim (degree_decides (degree (contour word) k)) [ inl d ↦ d | inr b ↦ absurd (h k (record { is_node = n; breaks = b })) ]

pub buds_from : (word : List ℕ) → ((k : ℕ) → BreaksBuds (contour word) k → ⊥) → HasBuds word
buds_from word h = λ k n.
    elim (cases_eq (2 * suc (buds (contour word) k)) (degree (contour word) k)) [ inl d ↦ d | inr b ↦ absurd (h k (record { is_node = n; breaks = b })) ]

pub record IsJudged (word : List ℕ) (faults : NodeFaults) : Type 0 where
  pub degree : MatchOption faults.degree (HasDegrees word) (IsFirst (BreaksDegree (contour word)))
  pub buds : MatchOption faults.buds (HasBuds word) (IsFirst (BreaksBuds (contour word)))

pub walking_end : (word : List ℕ) (node : OpenNode) (xs : List OpenNode) (faults new : NodeFaults) (i : ℕ) → i ≡ length word → IsInOrder word → IsNoted (IsDegree (suc node.entries)) faults.degree new.degree node.place → IsNoted (2 * suc node.buds ≡ suc node.entries) faults.buds new.buds node.place → IsWalking word node xs faults i → IsJudged word new
walking_end word node xs faults new i e m p q w =
    let none = walk_end OpenNode place_of LEAF word (IsCounted word) node (reverse xs) i e m.matched w.walk in
    let all : (passes : ℕ → Bool) → own passes (contour word) node.place ≡ own_before passes (contour word) node.place (suc i) = λ passes.
    sym (ap (λ (k : ℕ). own_before passes (contour word) node.place (suc k)) e ∙ own_before_is passes (contour word) node.place (suc (length word))) in
    let h = whole_from word node i m all w.walk.here.is_node w.walk.here.holds in
    record {
      degree = least_end OpenNode place_of LEAF word (BreaksDegree (contour word)) (IsDegree (suc node.entries)) (HasDegrees word) node (reverse xs) faults.degree new.degree i e none (λ k b. b.is_node) (degrees_from word) (degree_kept word node h) (degree_broken word node h) p w.least_degree;
      buds = least_end OpenNode place_of LEAF word (BreaksBuds (contour word)) (2 * suc node.buds ≡ suc node.entries) (HasBuds word) node (reverse xs) faults.buds new.buds i e none (λ k b. b.is_node) (buds_from word) (buds_kept word node h) (buds_broken word node h) q w.least_buds;
    }

-- room for one entry more
pub walking_entries : (word : List ℕ) (node : OpenNode) (xs : List OpenNode) (faults : NodeFaults) (i : ℕ) → i < length word → IsWalking word node xs faults i → node.entries < length word
walking_entries word node xs faults i l w = let a = count_room is_entry word node.place node.entries i w.walk.here.holds.entries_are in omega (arith, a, l)

pub walking_buds : (word : List ℕ) (node : OpenNode) (xs : List OpenNode) (faults : NodeFaults) (i : ℕ) → i < length word → IsWalking word node xs faults i → node.buds < length word
walking_buds word node xs faults i l w = let a = count_room is_bud word node.place node.buds i w.walk.here.holds.buds_are in omega (arith, a, l)

pub walking_parent : (word : List ℕ) (node : OpenNode) (xs : List OpenNode) (faults : NodeFaults) (i : ℕ) → IsInOrder word → slice_index word i ≡ CLOSE → IsWalking word node xs faults i → 0 < length xs
walking_parent word node xs faults i m o w =
    let a = walk_parent OpenNode place_of LEAF word (IsCounted word) node (reverse xs) i m.matched o w.walk in
    let b = length-reverse xs in
    omega (arith, a, b)
