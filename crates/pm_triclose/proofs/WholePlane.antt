-- The closure of a whole tree is a plane structure.
use Rattle.std.proofs.Common.{◌≡◌, ◌≢◌, ◌⊎◌, ℕ, zero, suc, ◌+◌, ◌*◌, ◌/◌, ◌%◌, ◌<◌, ◌≤◌, Bool, false, IsTrue, cond, eqb, ltb, inl, inr, List, length, refl, ap, ◌∙◌, sym, subst, arith, ne_eqb, le-ltb}
use Rattle.std.proofs.lemmas.Bool.{cases_eq, cases_lt}
use Rattle.pm_perm.specs.Cycles.{cycles}
use Rattle.pm_perm.specs.Permutation.{IsPermutationBelow}
use Rattle.pm_perm.specs.Pairs.{IsInvolutionBelow, pairs}
use Rattle.pm_perm.proofs.Counts.{count_below-split}
use Rattle.pm_perm.proofs.InverseLemmas.{place_of, place_of-permutes, value-place_of}
use Rattle.pm_perm.proofs.KeyRings.{IsKeyRing, IsNestedByKeys, key_ring-cycles, key_ring-permutes, rank-permutes, rank-steps, rank-tells, rank-within, rank_of}
use Rattle.pm_perm.proofs.PairCounts.{pairs-all}
use Rattle.pm_perm.proofs.PartPairs.{involution-permutes}
use Rattle.pm_perm.proofs.Renumbered.{product-permutes}
use Rattle.pm_brackets.proofs.RingPlaces.{mod_stays}
use Rattle.pm_map.specs.Plane.{HasEulerTwo, IsPlane}
use Rattle.pm_map.specs.Structure.{IsClosedSet, IsConnected, IsStructure, Structure, face_next}
use Rattle.pm_triclose.specs.Closure.{AreNumbers, AreTwins, Dart, at_place}
use Rattle.pm_triclose.specs.WholeClosure.{FollowsWhole, IsWholeDart}
use Rattle.pm_triclose.proofs.AheadOrder.{IsStemRing}
use Rattle.pm_triclose.proofs.DartKeys.{IsNext, IsPaired, bracket, bracket_back, bracket_named, first_key, key, next_follows, next_found, next_named, next_returns, next_rises, of_brackets, of_stems, one_key, pair_twins, paired, stem_back, stem_named, stem_pair}
use Rattle.pm_triclose.proofs.NestedDarts.{brackets_nest, stems_nest}

module _ (places : List ℕ) (across ends : ℕ → ℕ) (w : IsStemRing places across ends) (s : Structure) (number : Dart → ℕ) (n : AreNumbers (IsWholeDart places) (FollowsWhole places) (AreTwins places) s number) where
  -- the name of a dart
  picked : (d : ℕ) → (d < s.darts) ⊎ (s.darts ≤ d) → Dart
  picked d (inl l) = (n.all d l).0
  picked d (inr past) = at_place 0

  pub name : ℕ → Dart
  name d = picked d (cases_lt d s.darts)

  picked_named : (d : ℕ) (c : (d < s.darts) ⊎ (s.darts ≤ d)) → d < s.darts → IsWholeDart places (picked d c)
  unfolding picked
  picked_named d (inl l) h = (n.all d l).1
  picked_named d (inr past) h = absurd (omega (arith, past, h))

  picked_number : (d : ℕ) (c : (d < s.darts) ⊎ (s.darts ≤ d)) → d < s.darts → number (picked d c) ≡ d
  unfolding picked
  picked_number d (inl l) h = (n.all d l).2
  picked_number d (inr past) h = absurd (omega (arith, past, h))

  pub named : (d : ℕ) → d < s.darts → IsWholeDart places (name d)
  unfolding name
  named d l = picked_named d (cases_lt d s.darts) l

  pub number_back : (d : ℕ) → d < s.darts → number (name d) ≡ d
  unfolding name
  number_back d l = picked_number d (cases_lt d s.darts) l

  pub name_back : (x : Dart) → IsWholeDart places x → name (number x) ≡ x
  name_back x h = let l = n.within x h in n.different (name (number x)) x (named (number x) l) h (number_back (number x) l)

  -- an exchange of names as one of numbers
  pub by_name : (Dart → Dart) → ℕ → ℕ
  by_name g d = number (g (name d))

  pub by_name_is : (g : Dart → Dart) (d : ℕ) → by_name g d ≡ number (g (name d))
  unfolding by_name
  by_name_is g d = refl

  module _ (g : Dart → Dart) (stays : (x : Dart) → IsWholeDart places x → IsWholeDart places (g x)) (twice : (x : Dart) → IsWholeDart places x → g (g x) ≡ x) where
    name_after : (d : ℕ) → d < s.darts → name (by_name g d) ≡ g (name d)
    unfolding by_name
    name_after d l = name_back (g (name d)) (stays (name d) (named d l))

    by_name-involution : IsInvolutionBelow s.darts (by_name g)
    unfolding by_name
    by_name-involution = record {
      stays = λ k l. n.within (g (name k)) (stays (name k) (named k l));
      twice = λ k l. ap (λ (x : Dart). number (g x)) (name_after k l) ∙ ap number (twice (name k) (named k l)) ∙ number_back k l;
    }

  pub at_brackets : ℕ → ℕ
  at_brackets d = by_name (bracket across) d

  pub at_stems : ℕ → ℕ
  at_stems d = by_name (stem_pair places) d

  brackets_name : (d : ℕ) → d < s.darts → name (at_brackets d) ≡ bracket across (name d)
  unfolding at_brackets
  brackets_name d l = name_after (bracket across) (bracket_named places across ends w) (bracket_back places across ends w) d l

  pub stems_name : (d : ℕ) → d < s.darts → name (at_stems d) ≡ stem_pair places (name d)
  unfolding at_stems
  stems_name d l = name_after (stem_pair places) (stem_named places across ends w) (stem_back places across ends w) d l

  pub brackets_involution : IsInvolutionBelow s.darts at_brackets
  unfolding at_brackets
  brackets_involution = by_name-involution (bracket across) (bracket_named places across ends w) (bracket_back places across ends w)

  pub stems_involution : IsInvolutionBelow s.darts at_stems
  unfolding at_stems
  stems_involution = by_name-involution (stem_pair places) (stem_named places across ends w) (stem_back places across ends w)

  -- the key of a dart
  at_key : ℕ → ℕ
  at_key d = key (length places) ends (name d)

  -- the next dart after the other bracket
  pub ahead : ℕ → ℕ
  ahead d = s.next (at_brackets d)

  pub ahead_is : (d : ℕ) (y : Dart) → d < s.darts → IsNext places across ends w (name d) y → ahead d ≡ number y
  unfolding ahead at_brackets by_name
  ahead_is d y l f = n.next (bracket across (name d)) y (bracket_named places across ends w (name d) (named d l)) (next_follows places across ends w (name d) y (named d l) f)

  -- and what its name is
  record IsAheadOf (d : ℕ) : Type 0 where
    dart : Dart
    is_next : IsNext places across ends w (name d) dart
    within : ahead d < s.darts
    is : name (ahead d) ≡ dart

  ahead_of : (d : ℕ) → d < s.darts → IsAheadOf d
  ahead_of d l =
      let y = next_found places across ends w (name d) in
      let h = next_named places across ends w (name d) y.0 y.1 in
      let e = ahead_is d y.0 l y.1 in
      record { dart = y.0; is_next = y.1; within = subst (λ (k : ℕ). k < s.darts) (sym e) (n.within y.0 h); is = ap name e ∙ name_back y.0 h }

  ring : IsKeyRing s.darts at_key ahead
  unfolding at_key
  ring = record {
    distinct = λ j k hj hk e. sym (number_back j hj) ∙ ap number (one_key places across ends w (name j) (name k) (named j hj) (named k hk) e) ∙ number_back k hk;
    stays = λ k h. (ahead_of k h).within;
    rises = λ k e h i less.
        let y = ahead_of k h in
        subst (λ (x : Dart). (key (length places) ends (name k) < key (length places) ends x) × (key (length places) ends x ≤ key (length places) ends (name e))) (sym y.is)
        (next_rises places across ends w (name k) (name e) y.dart (named k h) (named e i) y.is_next less);
    returns = λ k h greatest e i.
        let y = ahead_of k h in
        subst (λ (x : Dart). key (length places) ends x ≤ key (length places) ends (name e)) (sym y.is)
        (next_returns places across ends w (name k) y.dart (named k h) y.is_next
        (λ c j. subst (λ (x : Dart). key (length places) ends x ≤ key (length places) ends (name k)) (name_back c j) (greatest (number c) (n.within c j))) (name e));
  }

  brackets_nested : IsNestedByKeys s.darts at_key at_brackets
  unfolding at_key
  brackets_nested = record {
    above = λ p r h i less more. subst (λ (x : Dart). key (length places) ends (name p) < key (length places) ends x) (sym (brackets_name r i))
        (brackets_nest places across ends w (name p) (name r) (named p h) (named r i) less (subst (λ (x : Dart). key (length places) ends (name r) < key (length places) ends x) (brackets_name p h) more)).above;
    below = λ p r h i less more. subst (λ (x : Dart). key (length places) ends x < key (length places) ends (name (at_brackets p))) (sym (brackets_name r i))
        (subst (λ (x : Dart). key (length places) ends (bracket across (name r)) < key (length places) ends x) (sym (brackets_name p h))
        (brackets_nest places across ends w (name p) (name r) (named p h) (named r i) less (subst (λ (x : Dart). key (length places) ends (name r) < key (length places) ends x) (brackets_name p h) more)).below);
  }

  stems_nested : IsNestedByKeys s.darts at_key at_stems
  unfolding at_key
  stems_nested = record {
    above = λ p r h i less more. subst (λ (x : Dart). key (length places) ends (name p) < key (length places) ends x) (sym (stems_name r i))
        (stems_nest places across ends w (name p) (name r) (named p h) (named r i) less (subst (λ (x : Dart). key (length places) ends (name r) < key (length places) ends x) (stems_name p h) more)).above;
    below = λ p r h i less more. subst (λ (x : Dart). key (length places) ends x < key (length places) ends (name (at_stems p))) (sym (stems_name r i))
        (subst (λ (x : Dart). key (length places) ends (stem_pair places (name r)) < key (length places) ends x) (sym (stems_name p h))
        (stems_nest places across ends w (name p) (name r) (named p h) (named r i) less (subst (λ (x : Dart). key (length places) ends (name r) < key (length places) ends x) (stems_name p h) more)).below);
  }

  pub some_darts : 0 < s.darts
  some_darts = let some = w.some in let l = n.within (at_place 0) some in omega (arith, l)

  -- twins are brackets or a stem's two darts
  pub twin_is : (d : ℕ) → d < s.darts → s.twin d ≡ at_brackets (at_stems d)
  unfolding at_brackets by_name
  twin_is d l =
      let t = pair_twins places across ends w (name d) (named d l) in
      sym (ap s.twin (number_back d l)) ∙ n.twin (name d) (bracket across (stem_pair places (name d))) (named d l) t ∙ sym (ap (λ (x : Dart). number (bracket across x)) (stems_name d l))

  next_is : (d : ℕ) → d < s.darts → s.next d ≡ ahead (at_brackets d)
  unfolding ahead
  next_is d l = ap s.next (sym (brackets_involution.twice d l))

  face_is : (d : ℕ) → d < s.darts → face_next s d ≡ ahead (at_stems d)
  unfolding ahead
  face_is d l = ap s.next (twin_is d l)

  pub vertex_cycles : cycles s.darts s.next ≡ 1 + pairs s.darts at_brackets
  vertex_cycles = key_ring-cycles s.darts at_key ahead ring at_brackets brackets_involution brackets_nested s.next some_darts (record { value = next_is })

  pub face_cycles : cycles s.darts (face_next s) ≡ 1 + pairs s.darts at_stems
  face_cycles = key_ring-cycles s.darts at_key ahead ring at_stems stems_involution stems_nested (face_next s) some_darts (record { value = face_is })

  -- of the two exchanges one moves a dart, to its twin
  pub data IsOneMove (d : ℕ) : Type 0 where
    brackets_move : at_stems d ≡ d → at_brackets d ≡ s.twin d → at_brackets d ≢ d → IsOneMove d
    stems_move : at_brackets d ≡ d → at_stems d ≡ s.twin d → at_stems d ≢ d → IsOneMove d

  pub one_move : (d : ℕ) → d < s.darts → IsOneMove d
  unfolding at_brackets at_stems by_name
  one_move d l = found (paired places across ends w (name d) (named d l)) where
    back : (x : Dart) → IsWholeDart places x → number x ≡ d → x ≡ name d
    back x h e = n.different x (name d) h (named d l) (e ∙ sym (number_back d l))

    found : IsPaired places across ends w (name d) → IsOneMove d
    found (of_brackets still moves) =
        let e : number (stem_pair places (name d)) ≡ d = ap number still ∙ number_back d l in
        brackets_move e (sym (twin_is d l ∙ ap (λ (k : ℕ). number (bracket across (name k))) e)) (λ f. moves (back (bracket across (name d)) (bracket_named places across ends w (name d) (named d l)) f))
    found (of_stems still there moves) =
        stems_move (ap number still ∙ number_back d l)
        (sym (twin_is d l ∙ ap (λ (x : Dart). number (bracket across x)) (stems_name d l) ∙ ap number there)) (λ f. moves (back (stem_pair places (name d)) (stem_named places across ends w (name d) (named d l)) f))

  twin_moves : (d : ℕ) → d < s.darts → s.twin d ≡ d → ⊥
  twin_moves d l e = found (one_move d l) where
    found : IsOneMove d → ⊥
    found (brackets_move still is moves) = moves (is ∙ e)
    found (stems_move still is moves) = moves (is ∙ e)

  twin_involution : IsInvolutionBelow s.darts s.twin
  twin_involution = record { stays = stays; twice = twice } where
    stays : (d : ℕ) → d < s.darts → s.twin d < s.darts
    stays d l = subst (λ (k : ℕ). k < s.darts) (sym (twin_is d l)) (brackets_involution.stays (at_stems d) (stems_involution.stays d l))

    twice : (d : ℕ) → d < s.darts → s.twin (s.twin d) ≡ d
    twice d l = found (one_move d l) (one_move (s.twin d) (stays d l)) where
      found : IsOneMove d → IsOneMove (s.twin d) → s.twin (s.twin d) ≡ d
      found (brackets_move still is moves) (brackets_move still' is' moves') = sym is' ∙ ap at_brackets (sym is) ∙ brackets_involution.twice d l
      found (stems_move still is moves) (stems_move still' is' moves') = sym is' ∙ ap at_stems (sym is) ∙ stems_involution.twice d l
      found (brackets_move still is moves) (stems_move still' is' moves') = absurd (moves (sym (sym (brackets_involution.twice d l) ∙ ap at_brackets is ∙ still' ∙ sym is)))
      found (stems_move still is moves) (brackets_move still' is' moves') = absurd (moves (sym (sym (stems_involution.twice d l) ∙ ap at_stems is ∙ still' ∙ sym is)))

  pub rotation : IsPermutationBelow s.darts s.next
  rotation = product-permutes s.darts s.next ahead at_brackets (key_ring-permutes s.darts at_key ahead ring) (involution-permutes s.darts at_brackets brackets_involution) (record { value = next_is })

  pub structure : IsStructure s
  structure = record {
    rotation = rotation;
    twin_stays = twin_involution.stays;
    twin_back = twin_involution.twice;
    twin_other = twin_moves;
    root_stays = λ l. subst (λ (k : ℕ). k < s.darts) (sym n.root) (n.within (at_place 0) w.some);
    no_root = λ e. let some = some_darts in absurd (omega (arith, e, some));
  }

  -- the darts are half brackets and half stems
  pub pairs_half : s.darts ≡ 2 * (pairs s.darts at_brackets + pairs s.darts at_stems)
  pairs_half =
      let all = pairs-all s.darts s.twin twin_involution twin_moves in
      let both = count_below-split (λ k. ltb (at_brackets k) k) (λ k. ltb (at_stems k) k) (λ k. ltb (s.twin k) k) s.darts (λ k l. one_of k (one_move k l)) in
      omega (arith, all, both) where
        one_of : (k : ℕ) → IsOneMove k → ((ltb (at_brackets k) k ≡ ltb (s.twin k) k) × (ltb (at_stems k) k ≡ false)) ⊎ ((ltb (at_brackets k) k ≡ false) × (ltb (at_stems k) k ≡ ltb (s.twin k) k))
        one_of k (brackets_move still is moves) = inl (ap (λ (q : ℕ). ltb q k) is, ap (λ (q : ℕ). ltb q k) still ∙ le-ltb k k (omega arith))
        one_of k (stems_move still is moves) = inr (ap (λ (q : ℕ). ltb q k) still ∙ le-ltb k k (omega arith), ap (λ (q : ℕ). ltb q k) is)

  pub euler : HasEulerTwo s
  euler =
      let vertices = vertex_cycles in
      let faces = face_cycles in
      let half = pairs_half in
      let some = some_darts in
      let test : eqb s.darts 0 ≡ false = ne_eqb s.darts 0 (λ e. omega (arith, e, some)) in
      let sum : cycles s.darts s.next + cycles s.darts (face_next s) ≡ s.darts / 2 + 2 = omega (arith, vertices, faces, half) in
      subst (λ (b : Bool). cond {A = ℕ} b 1 (cycles s.darts s.next) + cond {A = ℕ} b 1 (cycles s.darts (face_next s)) ≡ s.darts / 2 + 2) (sym test) sum

  -- what is closed under next and twin is closed along the ring, so it is everything
  module _ (holds : ℕ → Bool) (closed : IsClosedSet s holds) where
    ahead_holds : (d : ℕ) → d < s.darts → IsTrue (holds d) → IsTrue (holds (ahead d))
    unfolding ahead
    ahead_holds d l h = closed.under_next (at_brackets d) (brackets_involution.stays d l) (found (one_move d l)) where
      found : IsOneMove d → IsTrue (holds (at_brackets d))
      found (brackets_move still is moves) = subst (λ (k : ℕ). IsTrue (holds k)) (sym is) (closed.under_twin d l h)
      found (stems_move still is moves) = subst (λ (k : ℕ). IsTrue (holds k)) (sym still) h

    ranked : (first : ℕ) → first < s.darts → IsTrue (holds first) → rank_of s.darts at_key first ≡ 0 → (r d : ℕ) → d < s.darts → rank_of s.darts at_key d ≡ r → IsTrue (holds d)
    ranked first l h start zero d m e = subst (λ (k : ℕ). IsTrue (holds k)) ((rank-permutes s.darts at_key ahead ring).injective first d l m (start ∙ sym e)) h
    ranked first l h start (suc r) d m e =
        let permutes = rank-permutes s.darts at_key ahead ring in
        let within = rank-within s.darts at_key ahead ring d m in
        let fits : r < s.darts = omega (arith, within, e) in
        let before = place_of (rank_of s.darts at_key) s.darts r in
        let inside = (place_of-permutes (rank_of s.darts at_key) s.darts permutes).stays r fits in
        let is = value-place_of (rank_of s.darts at_key) s.darts r permutes in
        let steps = rank-steps s.darts at_key ahead ring before inside in
        let here : rank_of s.darts at_key (ahead before) ≡ rank_of s.darts at_key d =
        steps ∙ ap (λ (k : ℕ). suc k % s.darts) (is fits) ∙ mod_stays (suc r) s.darts (omega (arith, within, e)) ∙ sym e in
        subst (λ (k : ℕ). IsTrue (holds k)) (permutes.injective (ahead before) d (ring.stays before inside) m here)
        (ahead_holds before inside (ranked first l h start r before inside (is fits)))

  root_key : at_key s.root ≡ 0
  unfolding at_key
  root_key = ap (λ (d : ℕ). key (length places) ends (name d)) n.root ∙ ap (key (length places) ends) (name_back (at_place 0) w.some) ∙ first_key (length places) ends

  least : rank_of s.darts at_key s.root ≡ 0
  least = elim (cases_eq (rank_of s.darts at_key s.root) 0) [
    | inl e ↦ e
    | inr ne ↦
        let permutes = rank-permutes s.darts at_key ahead ring in
        let some = some_darts in
        let first = place_of (rank_of s.darts at_key) s.darts 0 in
        let inside = (place_of-permutes (rank_of s.darts at_key) s.darts permutes).stays 0 some in
        let is = value-place_of (rank_of s.darts at_key) s.darts 0 permutes some in
        let below = rank-tells s.darts at_key ahead ring first s.root inside (structure.root_stays some) (omega (arith, is, ne)) in
        absurd (omega (arith, below, root_key))
  ]

  pub connected : IsConnected s
  connected holds h closed d l = ranked holds closed s.root (structure.root_stays some_darts) h least (rank_of s.darts at_key d) d l refl

  pub plane : IsPlane s
  plane = record { structure = structure; connected = connected; euler = euler }
