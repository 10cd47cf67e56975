-- No two arcs of the whole tree of a balanced stem tree have the same ends, and none is a loop, by the heights of their corners
-- (after Poulalhon and Schaeffer 2006). An arc leads from a stem to its side, or from a child to its parent.
use Rattle.std.proofs.Common.{◌≡◌, ℕ, zero, suc, ◌+◌, ◌-◌, ◌<◌, ◌≤◌, inl, inr, List, length, slice_index, refl, ap, ◌∙◌, sym, subst, arith, eq-eqb}
use Rattle.std.proofs.lemmas.Bool.{cases_eq, cases_lt, cases_order}
use Rattle.pm_brackets.specs.declared.letters.TheConstants.{OPEN}
use Rattle.pm_brackets.proofs.Levels.{inside}
use Rattle.pm_brackets.proofs.OpenBrackets.{open_is_before}
use Rattle.pm_brackets.proofs.OwnLetters.{own_before, own_here}
use Rattle.pm_brackets.proofs.Stack.{IsStretch}
use Rattle.pm_tri.specs.declared.letters.TheConstants.{STEM}
use Rattle.pm_tri.specs.Runs.{IsBalanced}
use Rattle.pm_tri.specs.StemTree.{IsNode, IsStemTree, contour, is_stem, node_at}
use Rattle.pm_tri.specs.Whole.{whole}
use Rattle.pm_tri.proofs.NodeTurns.{at_is_node, node_stretch}
use Rattle.pm_tri.proofs.SideCounts.{down, up}
use Rattle.pm_triclose.proofs.AheadOrder.{IsStemRing, no_stem_ahead, within_ahead}
use Rattle.pm_triclose.proofs.AheadStems.{none_ahead, old_stem, stem_old}
use Rattle.pm_triclose.proofs.NodeHeights.{child_falls, no_later_open, node_falls, own_rises, two_stems}
use Rattle.pm_triclose.proofs.OpenStems.{ahead_after, ahead_rises}
use Rattle.pm_triclose.proofs.TreeCorners.{first_height, first_node, last_height, node_low, same_height, same_node, second_node}
use Rattle.pm_triclose.proofs.WholeBrackets.{IsNew, at_first, at_fourth, at_second, at_third, is_new}
use Rattle.pm_triclose.proofs.WholeInOrder.{other_run}
use Rattle.pm_triclose.proofs.WholeOf.{IsWholeOf}

-- an edge of the closure, led from the stem to its side, or from the child, which is named by its `(`, to its parent
pub data Arc : Type 0 where
  stem_arc : ℕ → Arc
  bracket_arc : ℕ → Arc

abbrev pub IsArc : List ℕ → Arc → Type 0
IsArc places (stem_arc x) = slice_index places x ≡ STEM
IsArc places (bracket_arc o) = slice_index places o ≡ OPEN

-- the nodes that it leads from and to
abbrev pub tail : List ℕ → Arc → ℕ
tail places (stem_arc x) = node_at places x
tail places (bracket_arc o) = o

abbrev pub head : List ℕ → (ℕ → ℕ) → Arc → ℕ
head places ends (stem_arc x) = node_at places (suc (ends x))
head places ends (bracket_arc o) = node_at places o

some_open : (word : List ℕ) (o : ℕ) → slice_index (contour word) o ≡ OPEN → 0 < o
some_open word zero e = absurd (omega (arith, e))
some_open word (suc o) e = omega arith

module _ (word : List ℕ) (t : IsStemTree word) (b : IsBalanced (contour word)) (across ends : ℕ → ℕ) (r : IsStemRing (contour (whole word)) across ends) where
  w : IsWholeOf (contour word) (contour (whole word)) (length word) (other_run word t b).0
  w = (other_run word t b).1

  own : ℕ → ℕ → ℕ
  own v k = own_before is_stem (contour word) v k

  -- a stem and the corner that it leads to
  record IsReach (x : ℕ) : Type 0 where
    old : x < length word
    stem : slice_index (contour word) x ≡ STEM
    after : x < suc (ends x)
    within : suc (ends x) ≤ suc (suc (length word))
    rises : up (contour (whole word)) (suc (ends x)) + down (contour word) x ≡ up (contour word) x + down (contour (whole word)) (suc (ends x)) + 1

  reach : (x : ℕ) → slice_index (contour (whole word)) x ≡ STEM → IsReach x
  reach x e =
      let a = r.closes x e in
      let l = stem_old (contour word) (contour (whole word)) (length word) (other_run word t b).0 w x e in
      let later = ahead_after (contour (whole word)) x (ends x) a in
      let h = same_height word t b x (omega (arith, l)) in
      let rises = ahead_rises (contour (whole word)) x (ends x) a in
      record {
        old = l;
        stem = old_stem (contour word) (contour (whole word)) (length word) (other_run word t b).0 w x e;
        after = omega (arith, later);
        within = elim (cases_lt (suc (length word)) (ends x)) [
          | inl past ↦ absurd (none_ahead (contour word) (contour (whole word)) (length word) (other_run word t b).0 w x (ends x) past a)
          | inr fine ↦ omega (arith, fine)
        ];
        rises = omega (arith, rises, h.ups, h.downs);
      }

  -- where the corner is one of the tree
  old_rises : (x : ℕ) → IsReach x → suc (ends x) ≤ length word → up (contour word) (suc (ends x)) + down (contour word) x ≡ up (contour word) x + down (contour word) (suc (ends x)) + 1
  old_rises x a l = let h = same_height word t b (suc (ends x)) l in omega (arith, a.rises, h.ups, h.downs)

  -- corners behind the tree's last place are at the two new nodes
  data IsNewCorner (e : ℕ) : Type 0 where
    at_b : e ≡ suc (length word) → node_at (contour (whole word)) e ≡ length word → IsNewCorner e
    at_a : e ≡ suc (suc (length word)) → node_at (contour (whole word)) e ≡ suc (length word) → IsNewCorner e

  new_corner : (e : ℕ) → length word < e → e ≤ suc (suc (length word)) → IsNewCorner e
  new_corner e l m = elim (cases_eq e (suc (length word))) [
    | inl f ↦ at_b f (ap (node_at (contour (whole word))) f ∙ first_node word t b)
    | inr ne ↦ let f : e ≡ suc (suc (length word)) = omega (arith, l, m, ne) in at_a f (ap (node_at (contour (whole word))) f ∙ second_node word t b)
  ]

  new_high : (e : ℕ) → IsNewCorner e → length word ≤ node_at (contour (whole word)) e
  new_high e (at_b f n) = omega (arith, n)
  new_high e (at_a f n) = omega (arith, n)

  new_one : (e f : ℕ) → IsNewCorner e → IsNewCorner f → node_at (contour (whole word)) e ≡ node_at (contour (whole word)) f → e ≡ f
  new_one e f (at_b i n) (at_b j m) h = omega (arith, i, j)
  new_one e f (at_a i n) (at_a j m) h = omega (arith, i, j)
  new_one e f (at_b i n) (at_a j m) h = omega (arith, n, m, h)
  new_one e f (at_a i n) (at_b j m) h = omega (arith, n, m, h)

  low_corner : (e : ℕ) → e ≤ suc (suc (length word)) → node_at (contour (whole word)) e < length word → e ≤ length word
  low_corner e l low = elim (cases_lt (length word) e) [
    | inr fine ↦ fine
    | inl past ↦ let h = new_high e (new_corner e past l) in absurd (omega (arith, h, low))
  ]

  -- nodes by the tree
  tree_node : (i j : ℕ) → i ≤ length word → j ≤ length word → node_at (contour (whole word)) i ≡ node_at (contour (whole word)) j → node_at (contour word) i ≡ node_at (contour word) j
  tree_node i j l m e = sym (same_node word t b i l) ∙ e ∙ same_node word t b j m

  gain : (v i j : ℕ) → i ≤ j → own v i ≤ own v j
  unfolding own
  gain v i j l =
      let e : (j - i) + i ≡ j = omega (arith, l) in
      let f = ap (own_before is_stem (contour word) v) e in
      let g = own_rises (contour word) v i (j - i) in
      omega (arith, f, g)

  stem_more : (v x : ℕ) → slice_index (contour word) x ≡ STEM → node_at (contour word) x ≡ v → own v (suc x) ≡ suc (own v x)
  unfolding own
  stem_more v x e n = own_here is_stem (contour word) v x (eq-eqb (slice_index (contour word) x) STEM e) n

  stem_gain : (v x j : ℕ) → slice_index (contour word) x ≡ STEM → node_at (contour word) x ≡ v → x < j → suc (own v x) ≤ own v j
  stem_gain v x j e n l = let a = stem_more v x e n in let g = gain v (suc x) j l in omega (arith, a, g)

  -- before a stem there is one more at most
  one_left : (v x : ℕ) → x ≤ length word → slice_index (contour word) x ≡ STEM → node_at (contour word) x ≡ v → IsNode (contour word) v → own v x ≤ 1
  unfolding own
  one_left v x l e n k = let a = stem_more v x e n in let g = two_stems word t v (suc x) k (omega (arith, l)) in omega (arith, a, g)

  falls : (v i j : ℕ) → i ≤ length word → j ≤ length word → node_at (contour word) i ≡ v → node_at (contour word) j ≡ v
      → up (contour word) i + down (contour word) j + own v i ≡ up (contour word) j + down (contour word) i + own v j
  unfolding own
  falls v i j l m e f = node_falls word t v i j (omega (arith, l)) (omega (arith, m)) e f

  child : (o j : ℕ) → slice_index (contour word) o ≡ OPEN → j ≤ length word → node_at (contour word) j ≡ o → up (contour word) o + down (contour word) j + 1 ≡ up (contour word) j + down (contour word) o + own o j
  unfolding own
  child o j x l e = child_falls word t o j x (omega (arith, l)) e

  stretch_at : (v p : ℕ) → 0 < p → node_at (contour word) p ≡ v → IsStretch (contour word) v p
  stretch_at v zero l e = absurd (omega (arith, l))
  stretch_at v (suc p) l e = subst (λ (k : ℕ). IsStretch (contour word) k (suc p)) e (node_stretch word p t.in_order.matched)

  open_node : (v p : ℕ) → node_at (contour word) p ≡ v → 0 < v → slice_index (contour word) v ≡ OPEN
  open_node v p e some = elim (subst (IsNode (contour word)) e (at_is_node word p t.in_order.matched)) [ inl z ↦ absurd (omega (arith, z, some)) | inr o ↦ o ]

  node_before : (v p : ℕ) → node_at (contour word) p ≡ v → v ≤ p - 1
  node_before v p e = let a = open_is_before (contour word) p 0 in omega (arith, a, e)

  -- two nodes don't alternate along the contour
  alternate : (v u i j k l : ℕ) → i < j → j < k → k < l → node_at (contour word) i ≡ v → node_at (contour word) k ≡ v → node_at (contour word) j ≡ u → node_at (contour word) l ≡ u → v ≡ u
  alternate v u i j k l a c d ei ek ej el =
      let bi = node_before v i ei in
      let bj = node_before u j ej in
      elim (cases_order v u) [
        | inl e ↦ e
        | inr apart ↦ elim apart [
          | inl less ↦ absurd (no_later_open (contour word) v u k l (open_node u j ej (omega (arith, less))) (stretch_at v k (omega (arith, c)) ek) (stretch_at u l (omega (arith, d)) el) less (omega (arith, bj, c)) (omega (arith, d)))
          | inr more ↦ absurd (no_later_open (contour word) u v j k (open_node v i ei (omega (arith, more))) (stretch_at u j (omega (arith, a)) ej) (stretch_at v k (omega (arith, c)) ek) more (omega (arith, bi, a)) (omega (arith, c)))
        ]
      ]

  stem_loop : (x : ℕ) → IsReach x → node_at (contour (whole word)) x ≡ node_at (contour (whole word)) (suc (ends x)) → ⊥
  stem_loop x a e =
      let old = a.old in
      let low = node_low word t b x (omega (arith, old)) in
      let l = low_corner (suc (ends x)) a.within (omega (arith, low, e)) in
      let v = node_at (contour word) x in
      let f = falls v x (suc (ends x)) (omega (arith, old)) l refl (sym (tree_node x (suc (ends x)) (omega (arith, old)) l e)) in
      let g = stem_gain v x (suc (ends x)) a.stem refl a.after in
      let h = old_rises x a l in
      omega (arith, f, g, h)

  -- two stems of a node
  stems_fall : (x y : ℕ) → IsReach x → IsReach y → x < y → node_at (contour (whole word)) x ≡ node_at (contour (whole word)) y → up (contour word) y + down (contour word) x + 1 ≤ up (contour word) x + down (contour word) y
  stems_fall x y a c l e =
      let v = node_at (contour word) x in
      let i = a.old in
      let j = c.old in
      let f = falls v x y (omega (arith, i)) (omega (arith, j)) refl (sym (tree_node x y (omega (arith, i)) (omega (arith, j)) e)) in
      let g = stem_gain v x y a.stem refl l in
      omega (arith, f, g)

  past_side : (x y : ℕ) → slice_index (contour (whole word)) x ≡ STEM → slice_index (contour (whole word)) y ≡ STEM → x < y → ends x < ends y → ends x < y
  past_side x y e f l m = elim (cases_lt (ends x) y) [
    | inl fine ↦ fine
    | inr under ↦ elim (cases_eq y (ends x)) [
      | inl same ↦ absurd (no_stem_ahead (contour (whole word)) across ends r x (ends x) (r.closes x e) (sym (ap (slice_index (contour (whole word))) same) ∙ f))
      | inr ne ↦ let q = within_ahead (contour (whole word)) across ends r x (ends x) y (ends y) (r.closes x e) (r.closes y f) l (omega (arith, under, ne)) in absurd (omega (arith, q, m))
    ]
  ]

  stems_apart : (x y : ℕ) → slice_index (contour (whole word)) x ≡ STEM → slice_index (contour (whole word)) y ≡ STEM → x < y → node_at (contour (whole word)) x ≡ node_at (contour (whole word)) y
      → node_at (contour (whole word)) (suc (ends x)) ≡ node_at (contour (whole word)) (suc (ends y)) → ⊥
  stems_apart x y sx sy l e f =
      let a = reach x sx in
      let c = reach y sy in
      let down_to = stems_fall x y a c l e in
      let i = a.old in
      let j = c.old in
      elim (cases_lt (length word) (suc (ends x))) [
        | inl past ↦
            let n = new_corner (suc (ends x)) past a.within in
            let high = new_high (suc (ends x)) n in
            let over : length word < suc (ends y) = elim (cases_lt (length word) (suc (ends y))) [ inl g ↦ g | inr low ↦ let h = node_low word t b (suc (ends y)) low in absurd (omega (arith, h, high, f)) ] in
            let same = new_one (suc (ends x)) (suc (ends y)) n (new_corner (suc (ends y)) over c.within) f in
            let u = ap (up (contour (whole word))) same in
            let d = ap (down (contour (whole word))) same in
            omega (arith, a.rises, c.rises, u, d, down_to)
        | inr low ↦
            let h = node_low word t b (suc (ends x)) low in
            let m = low_corner (suc (ends y)) c.within (omega (arith, h, f)) in
            let u = node_at (contour word) (suc (ends x)) in
            let same = tree_node (suc (ends x)) (suc (ends y)) low m f in
            let fall = falls u (suc (ends x)) (suc (ends y)) low m refl (sym same) in
            let rx = old_rises x a low in
            let ry = old_rises y c m in
            let order : ends x < ends y = elim (cases_lt (ends x) (ends y)) [
              | inl fine ↦ fine
              | inr back ↦ let g = gain u (suc (ends y)) (suc (ends x)) (omega (arith, back)) in absurd (omega (arith, g, fall, rx, ry, down_to))
            ] in
            let side = past_side x y sx sy l order in
            let nodes = tree_node x y (omega (arith, i)) (omega (arith, j)) e in
            let after = c.after in
            let ax = a.after in
            elim (cases_eq (suc (ends x)) y) [
              | inl meets ↦ stem_loop x a (e ∙ ap (node_at (contour (whole word))) (sym meets))
              | inr ne ↦
                  let one = alternate (node_at (contour word) x) u x (suc (ends x)) y (suc (ends y)) ax (omega (arith, side, ne)) after refl (sym nodes) refl (sym same) in
                  stem_loop x a (same_node word t b x (omega (arith, i)) ∙ one ∙ sym (same_node word t b (suc (ends x)) low))
            ]
      ]

  -- a stem of a child doesn't lead to the parent
  not_to_parent : (x o : ℕ) → slice_index (contour (whole word)) x ≡ STEM → slice_index (contour (whole word)) o ≡ OPEN → node_at (contour (whole word)) x ≡ o → node_at (contour (whole word)) (suc (ends x)) ≡ node_at (contour (whole word)) o → ⊥
  not_to_parent x o sx so e f =
      let a = reach x sx in
      let i = a.old in
      let low = node_low word t b x (omega (arith, i)) in
      let under : o < length word = omega (arith, low, e) in
      let tree_open : slice_index (contour word) o ≡ OPEN = sym (w.kept o under) ∙ so in
      let oh = node_low word t b o (omega (arith, under)) in
      let m = low_corner (suc (ends x)) a.within (omega (arith, oh, f)) in
      let here : node_at (contour word) x ≡ o = sym (same_node word t b x (omega (arith, i))) ∙ e in
      let u = node_at (contour word) o in
      let before = node_before o x here in
      let ax = a.after in
      let fall = falls u o (suc (ends x)) (omega (arith, under)) m refl (tree_node (suc (ends x)) o m (omega (arith, under)) f) in
      let g = gain u o (suc (ends x)) (omega (arith, before, ax)) in
      let c = child o x tree_open (omega (arith, i)) here in
      let one = one_left o x (omega (arith, i)) a.stem here (inr tree_open) in
      let h = old_rises x a m in
      omega (arith, fall, g, c, one, h)

  -- two stems don't lead to each other's nodes
  stems_cross : (x y : ℕ) → slice_index (contour (whole word)) x ≡ STEM → slice_index (contour (whole word)) y ≡ STEM → x < y → node_at (contour (whole word)) x ≡ node_at (contour (whole word)) (suc (ends y))
      → node_at (contour (whole word)) (suc (ends x)) ≡ node_at (contour (whole word)) y → ⊥
  stems_cross x y sx sy l e f =
      let a = reach x sx in
      let c = reach y sy in
      let i = a.old in
      let j = c.old in
      let lx = node_low word t b x (omega (arith, i)) in
      let ly = node_low word t b y (omega (arith, j)) in
      let m = low_corner (suc (ends y)) c.within (omega (arith, lx, e)) in
      let k = low_corner (suc (ends x)) a.within (omega (arith, ly, f)) in
      let v = node_at (contour word) x in
      let u = node_at (contour word) y in
      let ay = c.after in
      let fall = falls v x (suc (ends y)) (omega (arith, i)) m refl (sym (tree_node x (suc (ends y)) (omega (arith, i)) m e)) in
      let g = stem_gain v x (suc (ends y)) a.stem refl (omega (arith, l, ay)) in
      let other = falls u (suc (ends x)) y k (omega (arith, j)) (tree_node (suc (ends x)) y k (omega (arith, j)) f) refl in
      let one = one_left u y (omega (arith, j)) c.stem refl (at_is_node word y t.in_order.matched) in
      let rx = old_rises x a k in
      let ry = old_rises y c m in
      omega (arith, fall, g, other, one, rx, ry)

  -- and none leads to a child of its node
  data IsOpenIn (o : ℕ) : Type 0 where
    in_tree : o < length word → IsOpenIn o
    is_b : o ≡ length word → IsOpenIn o
    is_a : o ≡ suc (length word) → IsOpenIn o

  open_in : (o : ℕ) → slice_index (contour (whole word)) o ≡ OPEN → IsOpenIn o
  open_in o e = elim (cases_lt o (length word)) [
    | inl old ↦ in_tree old
    | inr new ↦
        let wide = w.wide in
        let within = inside (contour (whole word)) o OPEN (omega arith) e in
        found (is_new (length word) o new (omega (arith, wide, within)))
  ] where
    found : IsNew (length word) o → IsOpenIn o
    found (at_first f) = is_b f
    found (at_second f) = is_a (omega (arith, f))
    found (at_third f) = let c = w.third in let g = ap (slice_index (contour (whole word))) f in absurd (omega (arith, c, g, e))
    found (at_fourth f) = let c = w.fourth in let g = ap (slice_index (contour (whole word))) f in absurd (omega (arith, c, g, e))

  to_new_child : (x : ℕ) → IsReach x → node_at (contour (whole word)) x ≡ node_at (contour (whole word)) (length word) → node_at (contour (whole word)) (suc (ends x)) ≡ length word → ⊥
  to_new_child x a e f =
      let i = a.old in
      let past : length word < suc (ends x) = elim (cases_lt (length word) (suc (ends x))) [ inl l ↦ l | inr low ↦ let h = node_low word t b (suc (ends x)) low in absurd (omega (arith, h, f)) ] in
      let here : suc (ends x) ≡ suc (length word) = at (new_corner (suc (ends x)) past a.within) in
      let u = ap (up (contour (whole word))) here in
      let d = ap (down (contour (whole word))) here in
      let level = first_height word t b in
      let end = last_height word t b in
      let v = node_at (contour word) x in
      let fall = falls v x (length word) (omega (arith, i)) (omega arith) refl (sym (tree_node x (length word) (omega (arith, i)) (omega arith) e)) in
      let g = stem_gain v x (length word) a.stem refl i in
      omega (arith, a.rises, u, d, level, end, fall, g) where
        at : IsNewCorner (suc (ends x)) → suc (ends x) ≡ suc (length word)
        at (at_b g n) = g
        at (at_a g n) = absurd (omega (arith, n, f))

  to_old_child : (x o : ℕ) → IsReach x → o < length word → slice_index (contour word) o ≡ OPEN → node_at (contour (whole word)) x ≡ node_at (contour (whole word)) o → node_at (contour (whole word)) (suc (ends x)) ≡ o → ⊥
  to_old_child x o a under so e f =
      let i = a.old in
      let m = low_corner (suc (ends x)) a.within (omega (arith, under, f)) in
      let there : node_at (contour word) (suc (ends x)) ≡ o = sym (same_node word t b (suc (ends x)) m) ∙ f in
      let v = node_at (contour word) x in
      let nodes = tree_node x o (omega (arith, i)) (omega (arith, under)) e in
      let h = old_rises x a m in
      let sx = a.stem in
      let ax = a.after in
      elim (cases_order x o) [
        | inl same ↦ let g = ap (slice_index (contour word)) same in omega (arith, g, so, sx)
        | inr apart ↦ elim apart [
          | inl l ↦
              let fall = falls v x o (omega (arith, i)) (omega (arith, under)) refl (sym nodes) in
              let g = stem_gain v x o a.stem refl l in
              let c = child o (suc (ends x)) so m there in
              omega (arith, fall, g, c, h)
          | inr l ↦
              let before = node_before v o (sym nodes) in
              let some = some_open word o so in
              no_later_open (contour word) v o x (suc (ends x)) so (stretch_at v x (omega (arith, l)) refl) (stretch_at o (suc (ends x)) (omega arith) there) (omega (arith, before, some)) l (omega (arith, ax))
        ]
      ]

  not_to_child : (x o : ℕ) → slice_index (contour (whole word)) x ≡ STEM → slice_index (contour (whole word)) o ≡ OPEN → node_at (contour (whole word)) x ≡ node_at (contour (whole word)) o → node_at (contour (whole word)) (suc (ends x)) ≡ o → ⊥
  not_to_child x o sx so e f = found (open_in o so) where
    found : IsOpenIn o → ⊥
    found (in_tree l) = to_old_child x o (reach x sx) l (sym (w.kept o l) ∙ so) e f
    found (is_b g) = to_new_child x (reach x sx) (e ∙ ap (node_at (contour (whole word))) g) (f ∙ g)
    found (is_a g) =
        let a = reach x sx in
        let i = a.old in
        let low = node_low word t b x (omega (arith, i)) in
        let n = ap (node_at (contour (whole word))) g ∙ first_node word t b in
        omega (arith, low, n, e)

  pub no_loop : (a : Arc) → IsArc (contour (whole word)) a → tail (contour (whole word)) a ≡ head (contour (whole word)) ends a → ⊥
  no_loop (stem_arc x) h e = stem_loop x (reach x h) e
  no_loop (bracket_arc o) h e = let some = some_open (whole word) o h in let l = open_is_before (contour (whole word)) o 0 in omega (arith, some, l, e)

  pub no_parallel : (a c : Arc) → IsArc (contour (whole word)) a → IsArc (contour (whole word)) c → tail (contour (whole word)) a ≡ tail (contour (whole word)) c
      → head (contour (whole word)) ends a ≡ head (contour (whole word)) ends c → a ≡ c
  no_parallel (stem_arc x) (stem_arc y) h i e f = elim (cases_order x y) [
    | inl same ↦ ap stem_arc same
    | inr apart ↦ elim apart [ inl l ↦ absurd (stems_apart x y h i l e f) | inr l ↦ absurd (stems_apart y x i h l (sym e) (sym f)) ]
  ]
  no_parallel (stem_arc x) (bracket_arc o) h i e f = absurd (not_to_parent x o h i e f)
  no_parallel (bracket_arc o) (stem_arc x) h i e f = absurd (not_to_parent x o i h (sym e) (sym f))
  no_parallel (bracket_arc o) (bracket_arc p) h i e f = ap bracket_arc e

  pub no_crossed : (a c : Arc) → IsArc (contour (whole word)) a → IsArc (contour (whole word)) c → tail (contour (whole word)) a ≡ head (contour (whole word)) ends c
      → head (contour (whole word)) ends a ≡ tail (contour (whole word)) c → ⊥
  no_crossed (stem_arc x) (stem_arc y) h i e f = elim (cases_order x y) [
    | inl same ↦ stem_loop x (reach x h) (e ∙ ap (λ (k : ℕ). node_at (contour (whole word)) (suc (ends k))) (sym same))
    | inr apart ↦ elim apart [ inl l ↦ stems_cross x y h i l e f | inr l ↦ stems_cross y x i h l (sym f) (sym e) ]
  ]
  no_crossed (stem_arc x) (bracket_arc o) h i e f = not_to_child x o h i e f
  no_crossed (bracket_arc o) (stem_arc x) h i e f = not_to_child x o i h (sym f) (sym e)
  no_crossed (bracket_arc o) (bracket_arc p) h i e f =
      let so = some_open (whole word) o h in
      let sp = some_open (whole word) p i in
      let l = open_is_before (contour (whole word)) o 0 in
      let m = open_is_before (contour (whole word)) p 0 in
      omega (arith, so, sp, l, m, e, f)
