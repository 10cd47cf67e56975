-- The entries of a node are its own letters: a walk counts those that were read and those to come.
use Rattle.std.proofs.Common.{◌≡◌, ℕ, zero, suc, ◌+◌, ◌≤◌, ◌<◌, ◌==◌, ◌&&◌, inl, inr, Bool, false, cond, List, [], ◌∷◌, length, drop, count_by, slice_index, None, refl, ap, ◌∙◌, arith, drop-cons, ne_eqb}
use Rattle.std.proofs.lemmas.Bool.{cases_eq}
use Rattle.std.proofs.lemmas.List.{drop_all}
use Rattle.std.proofs.lemmas.List.Sums.{sum_by-cons}
use Rattle.pm_brackets.specs.declared.letters.TheConstants.{OPEN, CLOSE}
use Rattle.pm_brackets.specs.Node.{IsNode, own}
use Rattle.pm_brackets.specs.Word.{IsMatched, IsOther}
use Rattle.pm_brackets.proofs.Least.{IsLeastOf}
use Rattle.pm_brackets.proofs.NodeWalk.{IsDone, IsWalk, least_close, least_end, least_open, least_other, least_start, walk_close, walk_end, walk_gone, walk_node, walk_open, walk_other, walk_parent, walk_start}
use Rattle.pm_brackets.proofs.OwnLetters.{none_before, own_at, own_before, own_before_is, own_elsewhere, own_fails, own_whole, own_start}
use Rattle.pm_trees.specs.declared.letters.TheConstants.{LEAF}
use Rattle.pm_trees.specs.Node.{entries, own_letters}
use Rattle.pm_trees.specs.OwnEntries.{EntriesAreOwn}
use Rattle.pm_trees.specs.Word.{contour}
use Rattle.pm_trees.proofs.FourLetters.{leaf_is_other}
use Rattle.pm_trees.proofs.Own.{close_above, open_above, other_above, other_here}

module _ (passes : ℕ → Bool) (word : List ℕ) where
  one : ℕ → ℕ
  one x = cond (passes x) 1 0

  one_is : (x : ℕ) → one x ≡ cond {A = ℕ} (passes x) 1 0
  unfolding one
  one_is x = refl

  -- the letters of a level that come from letter i on
  ahead : ℕ → ℕ → ℕ
  ahead d i = count_by passes (own_letters d (drop i word))

  ahead_is : (d i : ℕ) → ahead d i ≡ count_by passes (own_letters d (drop i word))
  unfolding ahead
  ahead_is d i = refl

  next : (i x : ℕ) → slice_index word i ≡ x → i < length word → drop i word ≡ x ∷ drop (suc i) word
  next i x e h = drop-cons word i 0 h ∙ ap (λ (y : ℕ). y ∷ drop (suc i) word) e

  ahead_step : (d e i x : ℕ) → slice_index word i ≡ x → i < length word → own_letters d (x ∷ drop (suc i) word) ≡ own_letters e (drop (suc i) word) → ahead d i ≡ ahead e (suc i)
  unfolding ahead
  ahead_step d e i x h l s = ap (λ (xs : List ℕ). count_by passes (own_letters d xs)) (next i x h l) ∙ ap (λ (xs : List ℕ). count_by passes xs) s

  ahead_one : (e i x : ℕ) → slice_index word i ≡ x → i < length word → own_letters 0 (x ∷ drop (suc i) word) ≡ x ∷ own_letters e (drop (suc i) word) → ahead 0 i ≡ one x + ahead e (suc i)
  unfolding ahead one
  ahead_one e i x h l s =
      let a = ap (λ (xs : List ℕ). count_by passes (own_letters 0 xs)) (next i x h l) in
      let b = ap (λ (xs : List ℕ). count_by passes xs) s in
      let c = sum_by-cons (λ (y : ℕ). cond (passes y) 1 0) x (own_letters e (drop (suc i) word)) in
      omega (arith, a, b, c)

  ahead_close : (i : ℕ) → slice_index word i ≡ CLOSE → i < length word → ahead 0 i ≡ 0
  unfolding ahead
  ahead_close i h l = ap (λ (xs : List ℕ). count_by passes (own_letters 0 xs)) (next i CLOSE h l)

  ahead_end : ahead 0 (length word) ≡ 0
  unfolding ahead
  ahead_end = ap (λ (xs : List ℕ). count_by passes (own_letters 0 xs)) (drop_all (length word) word (omega arith))

  -- what a node has in all
  all_of : ℕ → ℕ
  all_of node = ahead 0 node + cond ((node == 0) && passes LEAF) 1 0

  all_is : (node : ℕ) → all_of node ≡ ahead 0 node + cond {A = ℕ} ((node == 0) && passes LEAF) 1 0
  unfolding all_of
  all_is node = refl

  all_child : (i : ℕ) → all_of (suc i) ≡ ahead 0 (suc i)
  all_child i =
      let a : cond {A = ℕ} ((suc i == 0) && passes LEAF) 1 0 ≡ 0 = rw (ne_eqb (suc i) 0 (λ e. omega arith)) refl in
      let b = all_is (suc i) in
      omega (arith, a, b)

  all_root : all_of 0 ≡ ahead 0 0 + one LEAF
  unfolding one
  all_root = all_is 0

  -- so many were read, and so many are to come
  record IsShared (d node i : ℕ) : Type 0 where
    sum : own_before passes (contour word) node (suc i) + ahead d i ≡ all_of node

  -- the node doesn't own what it has
  record IsApart (node : ℕ) : Type 0 where
    is_node : IsNode (contour word) node
    apart : own passes (contour word) node ≡ all_of node → ⊥

  module _ (closes : passes CLOSE ≡ false) (m : IsMatched word) where
    record SomeWalk (i : ℕ) : Type 0 where
      node : ℕ
      above : List ℕ
      walk : IsWalk ℕ (λ k. k) LEAF word IsShared node above i
      least : IsLeastOf IsApart (IsDone ℕ (λ k. k) (contour word) node above i) None

    walks_start : SomeWalk 0
    walks_start = record {
      node = 0;
      above = [];
      walk = walk_start ℕ (λ k. k) LEAF word IsShared 0 leaf_is_other refl (record {
        sum = let a = own_start passes LEAF word in let b = all_root in let c = one_is LEAF in omega (arith, a, b, c);
      });
      least = least_start ℕ (λ k. k) LEAF word IsApart 0 None refl refl;
    }

    walks_other : (i : ℕ) → i < length word → IsOther (slice_index word i) → SomeWalk i → SomeWalk (suc i)
    walks_other i l o w =
        let at = walk_node ℕ (λ k. k) LEAF word IsShared w.node w.above i w.walk in
        record {
          node = w.node;
          above = w.above;
          walk = walk_other ℕ (λ k. k) LEAF word IsShared w.node w.node w.above i o refl (record {
            sum =
                let a = own_at passes (contour word) w.node (suc i) at in
                let b = ahead_one 0 i (slice_index word i) refl l (other_here (slice_index word i) (drop (suc i) word) o) in
                let c = one_is (slice_index word i) in
                let s = w.walk.here.holds.sum in
                omega (arith, a, b, c, s);
          }) (λ n d below h. record {
            sum =
                let a = own_elsewhere passes (contour word) n (suc i) (λ e. omega (arith, e, at, below)) in
                let b = ahead_step (suc d) (suc d) i (slice_index word i) refl l (other_above d (slice_index word i) (drop (suc i) word) o) in
                let s = h.sum in
                omega (arith, a, b, s);
          }) w.walk;
          least = least_other ℕ (λ k. k) LEAF word IsApart w.node w.node w.above None i o refl w.least;
        }

    walks_open : (i : ℕ) → i < length word → slice_index word i ≡ OPEN → SomeWalk i → SomeWalk (suc i)
    walks_open i l o w =
        let at = walk_node ℕ (λ k. k) LEAF word IsShared w.node w.above i w.walk in
        record {
          node = suc i;
          above = w.node ∷ w.above;
          walk = walk_open ℕ (λ k. k) LEAF word IsShared w.node w.node (suc i) w.above i o refl refl (record {
            sum =
                let a = own_at passes (contour word) w.node (suc i) at in
                let b = ahead_one 1 i OPEN o l refl in
                let c = one_is OPEN in
                let e = ap (λ (x : ℕ). cond {A = ℕ} (passes x) 1 0) o in
                let s = w.walk.here.holds.sum in
                omega (arith, a, b, c, e, s);
          }) (record {
            sum =
                let a = none_before passes (contour word) (suc i) (omega arith) in
                let b = all_child i in
                omega (arith, a, b);
          }) (λ n d below h. record {
            sum =
                let a = own_elsewhere passes (contour word) n (suc i) (λ e. omega (arith, e, at, below)) in
                let b = ahead_step (suc d) (suc (suc d)) i OPEN o l (open_above d (drop (suc i) word)) in
                let s = h.sum in
                omega (arith, a, b, s);
          }) w.walk;
          least = least_open ℕ (λ k. k) LEAF word IsApart w.node w.node (suc i) w.above None i refl refl w.least;
        }

    -- a `)` passes no such test
    own_same : (node i : ℕ) → slice_index word i ≡ CLOSE → own_before passes (contour word) node (suc (suc i)) ≡ own_before passes (contour word) node (suc i)
    own_same node i c = own_fails passes (contour word) node (suc i) (ap passes c ∙ closes)

    close_here : (i node : ℕ) (above : List ℕ) → i < length word → slice_index word i ≡ CLOSE → 0 < length above → IsWalk ℕ (λ k. k) LEAF word IsShared node above i → IsLeastOf IsApart (IsDone ℕ (λ k. k) (contour word) node above i) None → SomeWalk (suc i)
    close_here i node [] l c some w r = absurd (omega (arith, some))
    close_here i node (parent ∷ above) l c some w r =
        let gone = walk_gone ℕ (λ k. k) LEAF word IsShared node parent above i c w in
        let whole : own passes (contour word) node ≡ all_of node =
        let a = own_whole passes (contour word) node (suc (suc i)) (let b = w.before in omega (arith, b)) (omega (arith, l)) gone in
        let b = own_same node i c in
        let e = ahead_close i c l in
        let s = w.here.holds.sum in
        omega (arith, a, b, e, s) in
        record {
          node = parent;
          above = above;
          walk = walk_close ℕ (λ k. k) LEAF word IsShared node parent above i c (λ n d h. record {
            sum =
                let a = own_same n i c in
                let b = ahead_step (suc d) d i CLOSE c l (close_above d (drop (suc i) word)) in
                let s = h.sum in
                omega (arith, a, b, s);
          }) w;
          least = least_close ℕ (λ k. k) LEAF word IsApart (own passes (contour word) node ≡ all_of node) node parent above None None i c (λ g b. b.apart g) (λ g. absurd (g whole)) (inl (whole, refl)) r;
        }

    walks_on : (i : ℕ) → i < length word → SomeWalk i → SomeWalk (suc i)
    walks_on i l w =
        elim (cases_eq (slice_index word i) OPEN) [
          | inl o ↦ walks_open i l o w
          | inr n ↦ elim (cases_eq (slice_index word i) CLOSE) [
            | inl c ↦ close_here i w.node w.above l c (walk_parent ℕ (λ k. k) LEAF word IsShared w.node w.above i m c w.walk) w.walk w.least
            | inr k ↦ walks_other i l (record { not_open = n; not_close = k }) w
          ]
        ]

    walks : (i : ℕ) → i ≤ length word → SomeWalk i
    walks zero l = walks_start
    walks (suc i) l = walks_on i (omega (arith, l)) (walks i (omega (arith, l)))

    owns_all : (node : ℕ) → IsNode (contour word) node → own passes (contour word) node ≡ all_of node
    owns_all =
        let w = walks (length word) (omega arith) in
        let whole : own passes (contour word) w.node ≡ all_of w.node =
        let a = own_before_is passes (contour word) w.node (suc (length word)) in
        let e = ahead_end in
        let s = w.walk.here.holds.sum in
        omega (arith, a, e, s) in
        least_end ℕ (λ k. k) LEAF word IsApart (own passes (contour word) w.node ≡ all_of w.node) ((node : ℕ) → IsNode (contour word) node → own passes (contour word) node ≡ all_of node) w.node w.above None None (length word) refl
        (walk_end ℕ (λ k. k) LEAF word IsShared w.node w.above (length word) refl m w.walk) (λ k b. b.is_node)
        (λ none node n. elim (cases_eq (own passes (contour word) node) (all_of node)) [ inl e ↦ e | inr b ↦ absurd (none node (record { is_node = n; apart = b })) ])
        (λ g b. b.apart g) (λ g. absurd (g whole)) (inl (whole, refl)) w.least

pub entries_are_own : EntriesAreOwn
entries_are_own passes word node closes order n =
    let a = owns_all passes word closes order.matched node n in
    let b = all_is passes word node in
    let c = ahead_is passes word 0 node in
    omega (arith, a, b, c)
