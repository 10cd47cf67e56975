-- Closing in one pass: the dart of each place is known when the place is read, and so is the dart whose next it is.
use Rattle.std.proofs.Common.{◌≡◌, ◌≢◌, ℕ, suc, ◌+◌, ◌*◌, ◌%◌, ◌<◌, ◌≤◌, inl, inr, ltb, List, [], ◌∷◌, ◌++◌, length, set, refl, sym, ◌∙◌, ap, subst, arith, length-set, get_or-set_other, add-one}
use Rattle.std.specs.Prelude.{slice_index, Option, Some, option_to_list}
use Rattle.std.proofs.lemmas.Bool.{cases_eq, lt-ltb, le-ltb}
use Rattle.std.proofs.lemmas.Grind.{get_or-set_at}
use Rattle.pm_perm.proofs.Counts.{count_below-bound}
use Rattle.pm_trees.specs.declared.letters.TheConstants.{LEAF, BUD}
use Rattle.pm_brackets.specs.declared.letters.TheConstants.{OPEN, CLOSE}
use Rattle.pm_trees.specs.Blossoming.{IsBlossoming}
use Rattle.pm_trees.specs.Word.{contour}
use Rattle.pm_trees.proofs.Balance.{two_more_leaves}
use Rattle.pm_trees.proofs.FourLetters.{bracketing_exists, letter_cases, a_leaf, a_bud, an_open, a_close}
use Rattle.pm_match.specs.Pair.{IsBalanced}
use Rattle.pm_match.proofs.Counts.{surplus_from}
use Rattle.pm_map.specs.EdgeNumbers.{IsTwinning, edges_before, dart_of}
use Rattle.pm_map.proofs.NumberedEdges.{firsts, firsts_is, dart_of-first, dart_of-second, dart_of-root, dart_of_permutes}
use Rattle.pm_close.specs.Closure.{IsClosed}
use Rattle.pm_close.proofs.ClosedMap.{rotation_closes}
use Rattle.pm_close.proofs.ClosureLemmas.{across_unique, across_back, across_within, bracketing_across, succ_inside, succ_last}
use Rattle.pm_close.proofs.EdgeKinds.{BeginsChild, AwaitsLeaf, IsStraightLayout, twinning, children_kind, waiting_kind, at_open, at_close, at_bud, at_leaf, across_bracket, across_letter}
use Rattle.pm_close.proofs.RootedClosure.{has_across}
use Rattle.pm_close.proofs.SomeClosure.{each_tree_closes}
use Rattle.pm_close.proofs.Unclosed.{IsUnclosed, unclosed_none, unclosed_more, unclosed_same, unclosed_less, unclosed_some}

-- one edge more, or none
counted_more : (t : ℕ → ℕ) (i : ℕ) → i < t i → edges_before t (suc i) ≡ suc (edges_before t i)
counted_more t i l = let e = lt-ltb i (t i) l in grind arith

counted_same : (t : ℕ → ℕ) (i : ℕ) → t i < i → edges_before t (suc i) ≡ edges_before t i
counted_same t i l = let e = le-ltb i (t i) (omega arith) in grind arith

-- the first place of the next edge
record IsFirst (t : ℕ → ℕ) (i next : ℕ) : Type 0 where
  is : next ≡ dart_of t i
  other : next + 1 ≡ dart_of t (t i)
  count : next + 2 ≡ 2 * edges_before t (suc i)

first_is : (n : ℕ) (t : ℕ → ℕ) (i next : ℕ) → IsTwinning n t → i < n → i < t i → next ≡ 2 * edges_before t i → IsFirst t i next
first_is n t i next tw l up e =
    let back = tw.back i l in
    let second : t (t i) < t i = omega arith in
    let same = firsts_is t i in
    record {
      is = omega (arith, dart_of-first t i up);
      other = omega (arith, dart_of-second t (t i) second, ap (firsts t) back);
      count = omega (arith, counted_more t i up);
    }

-- the second place of an edge whose first dart is known
record IsSecond (t : ℕ → ℕ) (i d next : ℕ) : Type 0 where
  is : d + 1 ≡ dart_of t i
  count : next ≡ 2 * edges_before t (suc i)

second_is : (n : ℕ) (t : ℕ → ℕ) (i d next : ℕ) → IsTwinning n t → i < n → t i < i → d ≡ dart_of t (t i) → next ≡ 2 * edges_before t i → IsSecond t i d next
second_is n t i d next tw l down at e =
    let back = tw.back i l in
    let first : t i < t (t i) = omega arith in
    record {
      is = omega (arith, dart_of-first t (t i) first, dart_of-second t i down);
      count = omega (arith, counted_same t i down);
    }

-- What is known behind the plant and k letters: the edges that aren't closed, by kind, the dart of the next edge, the dart
-- whose next is that of the place ahead, and the next darts of all before it.
pub record IsPassed (places : List ℕ) (across t : ℕ → ℕ) (k : ℕ) (sigma children waiting : List ℕ) (next behind : ℕ) : Type 0 where
  pub children_are : IsUnclosed (BeginsChild places) t (suc k) children
  pub waiting_are : IsUnclosed (AwaitsLeaf places) t (suc k) waiting
  pub next_is : next ≡ 2 * edges_before t (suc k)
  pub behind_is : behind ≡ dart_of t (across k)
  pub as_long : length sigma ≡ length places
  pub each : (q : ℕ) → q < k → slice_index sigma (dart_of t (across q)) ≡ dart_of t (suc q % length places)

module _ (places : List ℕ) (across t : ℕ → ℕ) (drawn : IsStraightLayout places across t) where
  twin_places : IsTwinning (length places) t
  twin_places = twinning places across t drawn

  across_in : (p : ℕ) → p < length places → across p < length places
  across_in p l = across_within places p (across p) l (drawn.layout.is_across p l)

  across_twice : (p : ℕ) → p < length places → across (across p) ≡ p
  across_twice p l =
      across_unique places (across p) (across (across p)) p drawn.layout.one (drawn.layout.is_across (across p) (across_in p l)) (across_back places p (across p) (drawn.layout.is_across p l))

  -- no two places have one dart across
  across_apart : (p q : ℕ) → p < length places → q < length places → dart_of t (across p) ≡ dart_of t (across q) → p ≡ q
  across_apart p q l m e =
      let same = (dart_of_permutes (length places) t twin_places).injective (across p) (across q) (across_in p l) (across_in q m) e in
      sym (across_twice p l) ∙ ap across same ∙ across_twice q m

  -- the dart behind is a dart
  pub behind_in : (k behind : ℕ) → k < length places → behind ≡ dart_of t (across k) → behind < length places
  behind_in k behind l e = omega (arith, (dart_of_permutes (length places) t twin_places).stays (across k) (across_in k l))

  -- one next dart more
  linked : (k behind d : ℕ) (sigma after : List ℕ) → k < length places → after ≡ set sigma behind d → behind ≡ dart_of t (across k) → d ≡ dart_of t (suc k % length places) → length sigma ≡ length places
      → ((q : ℕ) → q < k → slice_index sigma (dart_of t (across q)) ≡ dart_of t (suc q % length places))
      → (q : ℕ) → q < suc k → slice_index after (dart_of t (across q)) ≡ dart_of t (suc q % length places)
  linked k behind d sigma after l is at value long before q less =
      let inside : behind < length sigma = omega (arith, behind_in k behind l at) in
      ap (λ (xs : List ℕ). slice_index xs (dart_of t (across q))) is ∙ elim (cases_eq q k) [
        | inl e ↦
            get_or-set_at sigma behind (dart_of t (across q)) d 0 (ap (λ (p : ℕ). dart_of t (across p)) e ∙ sym at) inside
            ∙ value ∙ ap (λ (p : ℕ). dart_of t (suc p % length places)) (sym e)
        | inr ne ↦
            let apart : dart_of t (across q) ≢ behind = λ same. ne (across_apart q k (omega arith) l (same ∙ at)) in
            get_or-set_other sigma behind (dart_of t (across q)) d 0 apart ∙ before q (omega arith)
      ]

  ahead : (k d : ℕ) → suc k < length places → d ≡ dart_of t (suc k) → d ≡ dart_of t (suc k % length places)
  ahead k d l e = e ∙ ap (dart_of t) (sym (succ_inside k (length places) l))

  -- a `(`
  pub passed_open : (k : ℕ) (sigma after children more waiting : List ℕ) (next behind : ℕ) → suc k < length places → slice_index places (suc k) ≡ OPEN
      → more ≡ children ++ next ∷ [] → after ≡ set sigma behind next → IsPassed places across t k sigma children waiting next behind
      → IsPassed places across t (suc k) after more waiting (next + 2) (next + 1)
  passed_open k sigma after children more waiting next behind l e pushed written h =
      let b = at_open places across t drawn (suc k) (omega arith) l e in
      let first = first_is (length places) t (suc k) next twin_places l b.up h.next_is in
      record {
        children_are = unclosed_more (BeginsChild places) t (length places) (suc k) next children more (children_kind places across t drawn) l b.here pushed first.is h.children_are;
        waiting_are = unclosed_same (AwaitsLeaf places) t (length places) (suc k) waiting (waiting_kind places across t drawn) l b.other_here b.other_there h.waiting_are;
        next_is = first.count;
        behind_is = first.other ∙ ap (dart_of t) (sym (across_bracket places across t drawn (suc k) l (inl e)));
        as_long = ap length written ∙ length-set sigma behind next ∙ h.as_long;
        each = linked k behind next sigma after (omega arith) written h.behind_is (ahead k next l first.is) h.as_long h.each;
      }

  -- a bud
  pub passed_bud : (k : ℕ) (sigma after children waiting more : List ℕ) (next behind : ℕ) → suc k < length places → slice_index places (suc k) ≡ BUD
      → more ≡ waiting ++ next ∷ [] → after ≡ set sigma behind next → IsPassed places across t k sigma children waiting next behind
      → IsPassed places across t (suc k) after children more (next + 2) next
  passed_bud k sigma after children waiting more next behind l e pushed written h =
      let b = at_bud places across t drawn (suc k) l e in
      let first = first_is (length places) t (suc k) next twin_places l b.up h.next_is in
      record {
        children_are = unclosed_same (BeginsChild places) t (length places) (suc k) children (children_kind places across t drawn) l b.other_here b.other_there h.children_are;
        waiting_are = unclosed_more (AwaitsLeaf places) t (length places) (suc k) next waiting more (waiting_kind places across t drawn) l b.here pushed first.is h.waiting_are;
        next_is = first.count;
        behind_is = first.is ∙ ap (dart_of t) (sym (across_letter places across t drawn (suc k) l (λ f. absurd (omega arith)) (λ f. absurd (omega arith))));
        as_long = ap length written ∙ length-set sigma behind next ∙ h.as_long;
        each = linked k behind next sigma after (omega arith) written h.behind_is (ahead k next l first.is) h.as_long h.each;
      }

  -- a `)`, which ends the edge of the last child
  pub passed_close : (k : ℕ) (sigma after children rest waiting : List ℕ) (next behind d : ℕ) (r : Option ℕ) → suc k < length places → slice_index places (suc k) ≡ CLOSE
      → children ≡ rest ++ option_to_list r → r ≡ Some d → after ≡ set sigma behind (d + 1) → IsPassed places across t k sigma children waiting next behind
      → IsPassed places across t (suc k) after rest waiting next d
  passed_close k sigma after children rest waiting next behind d r l e popped some written h =
      let b = at_close places across t drawn (suc k) (omega arith) l e in
      let top = unclosed_less (BeginsChild places) t (length places) (suc k) d children rest r (children_kind places across t drawn) l b.there b.down popped some h.children_are in
      let second = second_is (length places) t (suc k) d next twin_places l b.down top.is h.next_is in
      record {
        children_are = top.below;
        waiting_are = unclosed_same (AwaitsLeaf places) t (length places) (suc k) waiting (waiting_kind places across t drawn) l b.other_here b.other_there h.waiting_are;
        next_is = second.count;
        behind_is = top.is ∙ ap (dart_of t) (sym (across_bracket places across t drawn (suc k) l (inr e)));
        as_long = ap length written ∙ length-set sigma behind (d + 1) ∙ h.as_long;
        each = linked k behind (d + 1) sigma after (omega arith) written h.behind_is (ahead k (d + 1) l second.is) h.as_long h.each;
      }

  -- a leaf, which ends the edge of the last that waits
  pub passed_leaf : (k : ℕ) (sigma after children waiting rest : List ℕ) (next behind d : ℕ) (r : Option ℕ) → suc k < length places → slice_index places (suc k) ≡ LEAF
      → waiting ≡ rest ++ option_to_list r → r ≡ Some d → after ≡ set sigma behind (d + 1) → IsPassed places across t k sigma children waiting next behind
      → IsPassed places across t (suc k) after children rest next (d + 1)
  passed_leaf k sigma after children waiting rest next behind d r l e popped some written h =
      let b = at_leaf places across t drawn (suc k) (omega arith) l e in
      let top = unclosed_less (AwaitsLeaf places) t (length places) (suc k) d waiting rest r (waiting_kind places across t drawn) l b.there b.down popped some h.waiting_are in
      let second = second_is (length places) t (suc k) d next twin_places l b.down top.is h.next_is in
      record {
        children_are = unclosed_same (BeginsChild places) t (length places) (suc k) children (children_kind places across t drawn) l b.other_here b.other_there h.children_are;
        waiting_are = top.below;
        next_is = second.count;
        behind_is = second.is ∙ ap (dart_of t) (sym (across_letter places across t drawn (suc k) l (λ f. absurd (omega arith)) (λ f. absurd (omega arith))));
        as_long = ap length written ∙ length-set sigma behind (d + 1) ∙ h.as_long;
        each = linked k behind (d + 1) sigma after (omega arith) written h.behind_is (ahead k (d + 1) l second.is) h.as_long h.each;
      }

  -- such an edge is there, and its dart is one
  pub child_some : (k : ℕ) (sigma children waiting : List ℕ) (next behind : ℕ) → suc k < length places → slice_index places (suc k) ≡ CLOSE → IsPassed places across t k sigma children waiting next behind → 0 < length children
  child_some k sigma children waiting next behind l e h =
      let b = at_close places across t drawn (suc k) (omega arith) l e in
      unclosed_some (BeginsChild places) t (length places) (suc k) children (children_kind places across t drawn) l b.there b.down h.children_are

  pub waiting_some : (k : ℕ) (sigma children waiting : List ℕ) (next behind : ℕ) → suc k < length places → slice_index places (suc k) ≡ LEAF → IsPassed places across t k sigma children waiting next behind → 0 < length waiting
  waiting_some k sigma children waiting next behind l e h =
      let b = at_leaf places across t drawn (suc k) (omega arith) l e in
      unclosed_some (AwaitsLeaf places) t (length places) (suc k) waiting (waiting_kind places across t drawn) l b.there b.down h.waiting_are

  -- its second dart is a dart
  second_in : (i d next : ℕ) → i < length places → IsSecond t i d next → d + 1 < length places
  second_in i d next l second = omega (arith, second.is, (dart_of_permutes (length places) t twin_places).stays i l)

  pub child_in : (k : ℕ) (sigma children rest waiting : List ℕ) (next behind d : ℕ) (r : Option ℕ) → suc k < length places → slice_index places (suc k) ≡ CLOSE
      → children ≡ rest ++ option_to_list r → r ≡ Some d → IsPassed places across t k sigma children waiting next behind → d + 1 < length places
  child_in k sigma children rest waiting next behind d r l e popped some h =
      let b = at_close places across t drawn (suc k) (omega arith) l e in
      let top = unclosed_less (BeginsChild places) t (length places) (suc k) d children rest r (children_kind places across t drawn) l b.there b.down popped some h.children_are in
      second_in (suc k) d next l (second_is (length places) t (suc k) d next twin_places l b.down top.is h.next_is)

  pub waiting_in : (k : ℕ) (sigma children waiting rest : List ℕ) (next behind d : ℕ) (r : Option ℕ) → suc k < length places → slice_index places (suc k) ≡ LEAF
      → waiting ≡ rest ++ option_to_list r → r ≡ Some d → IsPassed places across t k sigma children waiting next behind → d + 1 < length places
  waiting_in k sigma children waiting rest next behind d r l e popped some h =
      let b = at_leaf places across t drawn (suc k) (omega arith) l e in
      let top = unclosed_less (AwaitsLeaf places) t (length places) (suc k) d waiting rest r (waiting_kind places across t drawn) l b.there b.down popped some h.waiting_are in
      second_in (suc k) d next l (second_is (length places) t (suc k) d next twin_places l b.down top.is h.next_is)

  -- the darts are few
  pub next_few : (k : ℕ) (sigma children waiting : List ℕ) (next behind : ℕ) → IsPassed places across t k sigma children waiting next behind → next ≤ 2 * suc k
  next_few k sigma children waiting next behind h = omega (arith, h.next_is, count_below-bound (λ p. ltb p (t p)) (suc k))

  -- before the first letter
  pub passed_start : (sigma children waiting : List ℕ) → 0 < length places → length sigma ≡ length places → children ≡ [] → waiting ≡ 0 ∷ [] → IsPassed places across t 0 sigma children waiting 2 0
  passed_start sigma children waiting some long none one =
      let plant : 0 < t 0 = (waiting_kind places across t drawn).ahead 0 some (inl refl) in
      let root : dart_of t 0 ≡ 0 = dart_of-root t (λ e. absurd (omega arith)) in
      let leaf = drawn.is_straight.plant.leaf in
      record {
        children_are = subst (IsUnclosed (BeginsChild places) t 1) (sym none)
            (unclosed_none (BeginsChild places) t 1 (λ p l e. differ p l e));
        waiting_are = subst (IsUnclosed (AwaitsLeaf places) t 1) (sym one)
            (unclosed_more (AwaitsLeaf places) t (length places) 0 0 [] (0 ∷ []) (waiting_kind places across t drawn) some (inl refl) refl (sym root)
            (unclosed_none (AwaitsLeaf places) t 0 (λ p l _. absurd (omega arith))));
        next_is = omega (arith, counted_more t 0 plant);
        behind_is = sym root ∙ ap (dart_of t) (sym (across_letter places across t drawn 0 some (λ f. absurd (omega arith)) (λ f. absurd (omega arith))));
        as_long = long;
        each = λ q l. absurd (omega arith);
      } where
        differ : (p : ℕ) → p < 1 → slice_index places p ≡ OPEN → ⊥
        differ p l e =
            let root : p ≡ 0 = omega arith in
            let leaf = drawn.is_straight.plant.leaf in
            let open_there = ap (slice_index places) (sym root) ∙ e in
            absurd (omega (arith, leaf, open_there))

  -- behind the last letter
  pub passed_end : (k : ℕ) (sigma after children waiting : List ℕ) (next behind : ℕ) → suc k ≡ length places → after ≡ set sigma behind 0 → IsPassed places across t k sigma children waiting next behind
      → IsClosed places (record { sigma = after; root = 0 })
  passed_end k sigma after children waiting next behind last written h =
      let plant : 0 < t 0 = (waiting_kind places across t drawn).ahead 0 (omega arith) (inl refl) in
      let root : dart_of t 0 ≡ 0 = dart_of-root t (λ e. absurd (omega arith)) in
      let round : suc k % length places ≡ 0 = ap (λ (m : ℕ). m % length places) last ∙ succ_last (length places) (omega arith) in
      let all = linked k behind 0 sigma after (omega arith) written h.behind_is (sym root ∙ ap (dart_of t) (sym round)) h.as_long h.each in
      rotation_closes places after across t drawn.layout (ap length written ∙ length-set sigma behind 0 ∙ h.as_long)
      (λ p l. let inside = across_in p l in
      ap (λ (q : ℕ). slice_index after (dart_of t q)) (sym (across_twice p l)) ∙ all (across p) (omega arith))
      (omega arith)

-- the state with some places across and some twins
pub record IsPassing (letters : List ℕ) (k : ℕ) (sigma children waiting : List ℕ) (next behind : ℕ) : Type 0 where
  pub across : ℕ → ℕ
  pub t : ℕ → ℕ
  pub drawn : IsStraightLayout (contour letters) across t
  pub passed : IsPassed (contour letters) across t k sigma children waiting next behind

-- a balanced tree has them
pub passing_start : (letters sigma children waiting : List ℕ) → IsBlossoming letters → IsBalanced (contour letters) → length sigma ≡ suc (length letters) → children ≡ [] → waiting ≡ 0 ∷ [] → IsPassing letters 0 sigma children waiting 2 0
passing_start letters sigma children waiting tree balanced long none one =
    let bracketing = bracketing_exists letters tree.in_order in
    let closed = (each_tree_closes letters tree).1 in
    let across = slice_index bracketing.0 in
    let drawn : IsStraightLayout (contour letters) (slice_index bracketing.0) closed.closure.twin = record {
      layout = record {
        one = (has_across letters tree).one;
        is_across = bracketing_across (contour letters) bracketing.0 bracketing.1;
        are_twins = closed.is_closure.twins;
      };
      is_straight = record { surplus = surplus_from (contour letters) (two_more_leaves letters tree); plant = balanced };
    } in
    record {
      across = slice_index bracketing.0;
      t = closed.closure.twin;
      drawn = drawn;
      passed = passed_start (contour letters) (slice_index bracketing.0) closed.closure.twin drawn sigma children waiting (omega arith) long none one;
    }

-- the steps of such a state
module _ (letters : List ℕ) (k : ℕ) (sigma children waiting : List ℕ) (next behind : ℕ) (h : IsPassing letters k sigma children waiting next behind) where
  pub passing_long : length sigma ≡ suc (length letters)
  passing_long = h.passed.as_long

  pub passing_behind : k ≤ length letters → behind < length sigma
  passing_behind l = omega (arith, behind_in (contour letters) h.across h.t h.drawn k behind (omega arith) h.passed.behind_is, h.passed.as_long)

  pub passing_few : next ≤ 2 * suc k
  passing_few = next_few (contour letters) h.across h.t h.drawn k sigma children waiting next behind h.passed

  pub passing_open : (after more : List ℕ) → k < length letters → slice_index letters k ≡ OPEN → more ≡ children ++ next ∷ [] → after ≡ set sigma behind next → IsPassing letters (k + 1) after more waiting (next + 2) (next + 1)
  passing_open after more l e pushed written = rw add-one (record {
    across = h.across;
    t = h.t;
    drawn = h.drawn;
    passed = passed_open (contour letters) h.across h.t h.drawn k sigma after children more waiting next behind (omega arith) e pushed written h.passed;
  })

  pub passing_bud : (after more : List ℕ) → k < length letters → slice_index letters k ≡ BUD → more ≡ waiting ++ next ∷ [] → after ≡ set sigma behind next → IsPassing letters (k + 1) after children more (next + 2) next
  passing_bud after more l e pushed written = rw add-one (record {
    across = h.across;
    t = h.t;
    drawn = h.drawn;
    passed = passed_bud (contour letters) h.across h.t h.drawn k sigma after children waiting more next behind (omega arith) e pushed written h.passed;
  })

  pub passing_close : (after rest : List ℕ) (d : ℕ) (r : Option ℕ) → k < length letters → slice_index letters k ≡ CLOSE → children ≡ rest ++ option_to_list r → r ≡ Some d → after ≡ set sigma behind (d + 1) → IsPassing letters (k + 1) after rest waiting next d
  passing_close after rest d r l e popped some written = rw add-one (record {
    across = h.across;
    t = h.t;
    drawn = h.drawn;
    passed = passed_close (contour letters) h.across h.t h.drawn k sigma after children rest waiting next behind d r (omega arith) e popped some written h.passed;
  })

  pub passing_leaf : (after rest : List ℕ) (d : ℕ) (r : Option ℕ) → k < length letters → slice_index letters k ≡ LEAF → waiting ≡ rest ++ option_to_list r → r ≡ Some d → after ≡ set sigma behind (d + 1) → IsPassing letters (k + 1) after children rest next (d + 1)
  passing_leaf after rest d r l e popped some written = rw add-one (record {
    across = h.across;
    t = h.t;
    drawn = h.drawn;
    passed = passed_leaf (contour letters) h.across h.t h.drawn k sigma after children waiting rest next behind d r (omega arith) e popped some written h.passed;
  })

  pub child_is_there : k < length letters → slice_index letters k ≡ CLOSE → 0 < length children
  child_is_there l e = child_some (contour letters) h.across h.t h.drawn k sigma children waiting next behind (omega arith) e h.passed

  pub waiting_is_there : k < length letters → slice_index letters k ≡ LEAF → 0 < length waiting
  waiting_is_there l e = waiting_some (contour letters) h.across h.t h.drawn k sigma children waiting next behind (omega arith) e h.passed

  pub child_few : (rest : List ℕ) (d : ℕ) (r : Option ℕ) → k < length letters → slice_index letters k ≡ CLOSE → children ≡ rest ++ option_to_list r → r ≡ Some d → d < length letters
  child_few rest d r l e popped some = omega (arith, child_in (contour letters) h.across h.t h.drawn k sigma children rest waiting next behind d r (omega arith) e popped some h.passed)

  pub waiting_few : (rest : List ℕ) (d : ℕ) (r : Option ℕ) → k < length letters → slice_index letters k ≡ LEAF → waiting ≡ rest ++ option_to_list r → r ≡ Some d → d < length letters
  waiting_few rest d r l e popped some = omega (arith, waiting_in (contour letters) h.across h.t h.drawn k sigma children waiting rest next behind d r (omega arith) e popped some h.passed)

  pub passing_end : (after : List ℕ) → k ≡ length letters → after ≡ set sigma behind 0 → IsClosed (contour letters) (record { sigma = after; root = 0 })
  passing_end after last written = passed_end (contour letters) h.across h.t h.drawn k sigma after children waiting next behind (omega arith) written h.passed

-- a letter that is no bracket and no bud is a leaf
pub letter_is_leaf : (letters : List ℕ) (k : ℕ) → IsBlossoming letters → k < length letters → slice_index letters k ≢ OPEN → slice_index letters k ≢ CLOSE → slice_index letters k ≢ BUD → slice_index letters k ≡ LEAF
letter_is_leaf letters k tree l no_open no_close no_bud = elim (letter_cases (slice_index letters k) (tree.in_order.letters k 0 l)) [
  | a_leaf e ↦ e
  | a_bud e ↦ absurd (no_bud e)
  | an_open e ↦ absurd (no_open e)
  | a_close e ↦ absurd (no_close e)
]
