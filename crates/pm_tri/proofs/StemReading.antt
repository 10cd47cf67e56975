-- A word is that of a stem tree exactly where, read from the left with the stems so far of each open node, it gives each node
-- two stems.
use Rattle.std.proofs.Common.{◌≡◌, ℕ, zero, suc, ◌+◌, ◌≤◌, ◌<◌, inl, inr, List, [], ◌∷◌, length, take, drop, map, slice_index, Option, Some, None, MatchOption, IsTrue, refl, ap, ◌∙◌, sym, subst, arith}
use Rattle.std.specs.Prelude.{All}
use Rattle.std.proofs.lemmas.Bool.{cases_eq}
use Rattle.std.proofs.lemmas.List.{length-drop, get_or-drop, drop-drop}
use Rattle.std.proofs.lemmas.List.Elements.{All-cons, All-nil}
use Rattle.pm_perm.proofs.Counts.{count_below-grows}
use Rattle.pm_brackets.specs.declared.letters.TheConstants.{OPEN, CLOSE}
use Rattle.pm_brackets.specs.First.{IsFirst}
use Rattle.pm_brackets.specs.Noted.{IsNoted, lesser}
use Rattle.pm_brackets.specs.Word.{IsMatched, is_letter_of}
use Rattle.pm_brackets.proofs.NodeWalk.{none_open}
use Rattle.pm_brackets.proofs.OwnLetters.{own_before_is}
use Rattle.pm_brackets.proofs.Tally.{tally, tally-nil, tally_is, tally_no, tally_yes}
use Rattle.pm_tri.specs.declared.letters.TheConstants.{STEM}
use Rattle.pm_tri.specs.declared.nodes.OpenNode.{OpenNode}
use Rattle.pm_tri.specs.StemTree.{BreaksStems, HasStems, IsInOrder, IsShort, IsStemTree, contour, is_stem, is_stem_of, stems}
use Rattle.pm_tri.proofs.CountReading.{Reads}
use Rattle.pm_tri.proofs.StemLetters.{letter_is_stem}
use Rattle.pm_tri.proofs.Walk.{IsWalk, has_parent, walk_close, walk_end, walk_open, walk_start, walk_stem}

stems_in : List OpenNode → List ℕ
stems_in above = map (λ node. node.stems) above

in_none : stems_in [] ≡ []
unfolding stems_in
in_none = refl

in_cons : (node : OpenNode) (above : List OpenNode) → stems_in (node ∷ above) ≡ node.stems ∷ stems_in above
unfolding stems_in
in_cons node above = refl

-- the letter at a place of the word, and the rest behind it
pub record IsNext (word : List ℕ) (i x : ℕ) (rest : List ℕ) : Type 0 where
  pub within : i < length word
  pub letter : slice_index word i ≡ x
  pub rest_is : rest ≡ drop (suc i) word

next_letter : (word : List ℕ) (i x : ℕ) (rest : List ℕ) → x ∷ rest ≡ drop i word → IsNext word i x rest
next_letter word i x rest e =
    let a = ap (λ (xs : List ℕ). length xs) e in
    let b = length-drop i word in
    let c : x ≡ slice_index (drop i word) 0 = ap (λ (xs : List ℕ). slice_index xs 0) e in
    let d : slice_index (drop i word) 0 ≡ slice_index word (i + 0) = get_or-drop i word 0 0 in
    let f : i + 0 ≡ i = omega arith in
    let g : rest ≡ drop 1 (drop i word) = ap (λ (xs : List ℕ). drop 1 xs) e in
    let h : drop 1 (drop i word) ≡ drop (i + 1) word = drop-drop 1 i word in
    let k : i + 1 ≡ suc i = omega arith in
    record {
      within = omega (arith, a, b);
      letter = sym (c ∙ d ∙ ap (slice_index word) f);
      rest_is = g ∙ h ∙ ap (λ (n : ℕ). drop n word) k;
    }

at_end : (word : List ℕ) (i : ℕ) → [] ≡ drop i word → i ≤ length word → i ≡ length word
at_end word i e l =
    let a = ap (λ (xs : List ℕ). length xs) e in
    let b = length-drop i word in
    omega (arith, a, b, l)

-- where a node is closed, the one above it goes on
closed_stems : (word rest : List ℕ) (i : ℕ) (node : OpenNode) (above : List OpenNode) → ((parent : OpenNode) (over : List OpenNode) → IsWalk word parent over None (suc i) → Reads (parent.stems ∷ stems_in over) rest → HasStems word)
    → IsWalk word node above None i → node.stems ≡ 2 → 0 < length (stems_in above) → Reads (stems_in above) rest → slice_index word i ≡ CLOSE → HasStems word
closed_stems word rest i node [] later w two some s letter = absurd (let h = ap (λ (xs : List ℕ). length xs) in_none in omega (arith, some, h))
closed_stems word rest i node (parent ∷ over) later w two some s letter =
    let P : List ℕ → Type 0 = λ xs. Reads xs rest in
    later parent over (walk_close word node parent over None None i letter (inl (two, refl)) w) (subst P (in_cons parent over) s)

-- what is read gives each node two stems
reads_stems : (word rest : List ℕ) (i : ℕ) (node : OpenNode) (above : List OpenNode) → rest ≡ drop i word → i ≤ length word → IsMatched word → IsWalk word node above None i → Reads (node.stems ∷ stems_in above) rest → HasStems word
reads_stems word [] i node above e l m w r =
    let two : node.stems ≡ 2 = ap (λ (xs : List ℕ). slice_index xs 0) r in
    walk_end word node above None None i (at_end word i e l) m (inl (two, refl)) w
reads_stems word (x ∷ rest) i node above e l m w r =
    let n = next_letter word i x rest e in
    let below : suc i ≤ length word = let h = n.within in omega arith in
    elim r [
      | inl a ↦
          let next : OpenNode = record { place = node.place; stems = suc node.stems } in
          reads_stems word rest (suc i) next above n.rest_is below m
          (walk_stem word node next above None i (n.letter ∙ a.0) (record { same_place = refl; one_more = refl }) w) a.2
      | inr q ↦ elim q [
        | inl a ↦
            let child : OpenNode = record { place = suc i; stems = 0 } in
            let P : List ℕ → Type 0 = λ xs. Reads (0 ∷ xs) rest in
            reads_stems word rest (suc i) child (node ∷ above) n.rest_is below m
            (walk_open word node child above None i (n.letter ∙ a.0) refl refl w) (subst P (sym (in_cons node above)) a.2)
        | inr a ↦
            closed_stems word rest i node above (λ parent over v s. reads_stems word rest (suc i) parent over n.rest_is below m v s) w a.1 a.2 a.3 (n.letter ∙ a.0)
      ]
    ]

-- where no node breaks the rule, none is noted
never_noted : (word : List ℕ) (found : Option ℕ) → HasStems word → MatchOption found (HasStems word) (IsFirst (BreaksStems (contour word))) → found ≡ None
never_noted word None h m = refl
never_noted word (Some k) h m = absurd (m.here.breaks (h k m.here.is_node))

some_lesser : (found : Option ℕ) (k : ℕ) → lesser found (Some k) ≡ None → ⊥
some_lesser None k e = cc
some_lesser (Some j) k e = cc

not_noted : (Right : Type 0) (found new : Option ℕ) (k : ℕ) → IsNoted Right found new k → new ≡ None → Right × (found ≡ None)
not_noted Right found new k n e = elim n [
  | inl a ↦ (a.0, sym a.1 ∙ e)
  | inr b ↦ absurd (some_lesser found k (sym b.1 ∙ e))
]

-- a note can be made
noting : (stems : ℕ) (found : Option ℕ) (k : ℕ) → (new : Option ℕ) × IsNoted (stems ≡ 2) found new k
noting stems found k = elim (cases_eq stems 2) [
  | inl e ↦ (found, inl (e, refl))
  | inr n ↦ (lesser found (Some k), inr (n, refl))
]

-- the stems so far are no more than all
few_stems : (word : List ℕ) (node : OpenNode) (above : List OpenNode) (found : Option ℕ) (i : ℕ) → i ≤ length word → HasStems word → IsWalk word node above found i → node.stems ≤ 2
few_stems word node above found i l h w =
    let a = w.walk.here.holds in
    let b = own_before_is is_stem (contour word) node.place (suc i) in
    let c = count_below-grows (is_stem_of (contour word) node.place) (suc i) (length (contour word)) (omega (arith, l)) in
    let d = h node.place w.walk.here.is_node in
    omega (arith, a, b, c, d)

closed_reads : (word rest : List ℕ) (i x : ℕ) (node : OpenNode) (above : List OpenNode) (found : Option ℕ)
    → ((parent : OpenNode) (over : List OpenNode) (new : Option ℕ) → IsWalk word parent over new (suc i) → (new ≡ None) × Reads (parent.stems ∷ stems_in over) rest)
    → IsWalk word node above found i → 0 < length above → slice_index word i ≡ CLOSE → x ≡ CLOSE → (found ≡ None) × Reads (node.stems ∷ stems_in above) (x ∷ rest)
closed_reads word rest i x node [] found later w some c closes = absurd (omega (arith, some))
closed_reads word rest i x node (parent ∷ over) found later w some c closes =
    let note = noting node.stems found node.place in
    let after = later parent over note.0 (walk_close word node parent over found note.0 i c note.1 w) in
    let right = not_noted (node.stems ≡ 2) found note.0 node.place note.1 after.0 in
    let P : List ℕ → Type 0 = λ xs. Reads xs rest in
    let long = ap (λ (xs : List ℕ). length xs) (in_cons parent over) in
    (right.1, inr (inr (closes, right.0, omega (arith, long), subst P (sym (in_cons parent over)) after.1)))

-- each word of a stem tree is read so, and nothing is noted
walk_reads : (word rest : List ℕ) (i : ℕ) (node : OpenNode) (above : List OpenNode) (found : Option ℕ) → rest ≡ drop i word → i ≤ length word → IsInOrder word → HasStems word → IsWalk word node above found i → (found ≡ None) × Reads (node.stems ∷ stems_in above) rest
walk_reads word [] i node above found e l o h w =
    let last = at_end word i e l in
    let note = noting node.stems found node.place in
    let none = never_noted word note.0 h (walk_end word node above found note.0 i last o.matched note.1 w) in
    let right = not_noted (node.stems ≡ 2) found note.0 node.place note.1 none in
    let P : ℕ → Type 0 = λ k. IsWalk word node above found k in
    let v : IsWalk word node above found (length word) = subst P last w in
    (right.1, ended above right.0 (none_open word (length above) o.matched v.walk.level)) where
      ended : (over : List OpenNode) → node.stems ≡ 2 → length over ≡ 0 → node.stems ∷ stems_in over ≡ 2 ∷ []
      ended [] two z = ap (λ (k : ℕ). k ∷ stems_in []) two ∙ ap (λ (xs : List ℕ). 2 ∷ xs) in_none
      ended (parent ∷ over) two z = absurd (omega (arith, z))
walk_reads word (x ∷ rest) i node above found e l o h w =
    let n = next_letter word i x rest e in
    let below : suc i ≤ length word = let q = n.within in omega arith in
    elim (cases_eq x OPEN) [
      | inl opens ↦
          let child : OpenNode = record { place = suc i; stems = 0 } in
          let later = walk_reads word rest (suc i) child (node ∷ above) found n.rest_is below o h (walk_open word node child above found i (n.letter ∙ opens) refl refl w) in
          let P : List ℕ → Type 0 = λ xs. Reads (0 ∷ xs) rest in
          (later.0, inr (inl (opens, few_stems word node above found i l h w, subst P (in_cons node above) later.1)))
      | inr not_open ↦ elim (cases_eq x CLOSE) [
        | inl closes ↦
            let c = n.letter ∙ closes in
            let some = has_parent word node above found i o.matched c w in
            closed_reads word rest i x node above found (λ parent over new v. walk_reads word rest (suc i) parent over new n.rest_is below o h v) w some c closes
        | inr not_close ↦
            let stem = letter_is_stem word i o n.within (record { not_open = λ q. not_open (sym n.letter ∙ q); not_close = λ q. not_close (sym n.letter ∙ q) }) in
            let next : OpenNode = record { place = node.place; stems = suc node.stems } in
            let walk = walk_stem word node next above found i stem (record { same_place = refl; one_more = refl }) w in
            let later = walk_reads word rest (suc i) next above found n.rest_is below o h walk in
            let few = few_stems word next above found (suc i) below h walk in
            (later.0, inl (sym n.letter ∙ stem, omega (arith, few), later.1))
      ]
    ]

root_node : OpenNode
root_node = record { place = 0; stems = 1 }

root_walks : (word : List ℕ) → IsWalk word root_node [] None 0
unfolding root_node
root_walks word = walk_start word root_node None refl refl refl

root_reads : (word : List ℕ) → (node_reads : Reads (root_node.stems ∷ stems_in []) word) → Reads (1 ∷ []) word
unfolding root_node stems_in
root_reads word r = r

reads_root : (word : List ℕ) → Reads (1 ∷ []) word → Reads (root_node.stems ∷ stems_in []) word
unfolding root_node stems_in
reads_root word r = r

pub stem_tree_reads : (word : List ℕ) → IsStemTree word → Reads (1 ∷ []) word
stem_tree_reads word t = root_reads word (walk_reads word word 0 root_node [] None refl (omega arith) t.in_order t.stems (root_walks word)).1

-- what is read has the three letters, and its brackets match
reads_letters : (counts word : List ℕ) → Reads counts word → All (λ x. IsTrue (is_letter_of (STEM ∷ []) x)) word
reads_letters counts [] r = All-nil (λ x. IsTrue (is_letter_of (STEM ∷ []) x))
reads_letters [] (x ∷ word) r = absurd r
reads_letters (k ∷ above) (x ∷ word) r =
    let P : ℕ → Type 0 = λ y. IsTrue (is_letter_of (STEM ∷ []) y) in
    elim r [
      | inl a ↦ All-cons P x word (subst P (sym a.0) refl) (reads_letters (suc k ∷ above) word a.2)
      | inr q ↦ elim q [
        | inl a ↦ All-cons P x word (subst P (sym a.0) refl) (reads_letters (0 ∷ k ∷ above) word a.2)
        | inr a ↦ All-cons P x word (subst P (sym a.0) refl) (reads_letters above word a.3)
      ]
    ]

-- the brackets of a letter
pub record IsBracketStep (x : ℕ) (counts next word : List ℕ) : Type 0 where
  pub reads : Reads next word
  pub changes : tally OPEN (x ∷ []) + length counts ≡ tally CLOSE (x ∷ []) + length next

brackets_step : (k : ℕ) (above : List ℕ) (x : ℕ) (word : List ℕ) → Reads (k ∷ above) (x ∷ word) → (next : List ℕ) × IsBracketStep x (k ∷ above) next word
brackets_step k above x word r =
    let no = tally-nil OPEN in
    let nc = tally-nil CLOSE in
    elim r [
      | inl a ↦
          let s = a.0 in
          let p = tally_no OPEN x [] (λ e. omega (arith, e, s)) in
          let q = tally_no CLOSE x [] (λ e. omega (arith, e, s)) in
          (suc k ∷ above, record { reads = a.2; changes = omega (arith, no, nc, p, q) })
      | inr t ↦ elim t [
        | inl a ↦
            let s = a.0 in
            let p = tally_yes OPEN x [] s in
            let q = tally_no CLOSE x [] (λ e. omega (arith, e, s)) in
            (0 ∷ k ∷ above, record { reads = a.2; changes = omega (arith, no, nc, p, q) })
        | inr a ↦
            let s = a.0 in
            let p = tally_no OPEN x [] (λ e. omega (arith, e, s)) in
            let q = tally_yes CLOSE x [] s in
            (above, record { reads = a.3; changes = omega (arith, no, nc, p, q) })
      ]
    ]

tally_prefix : (letter x : ℕ) (xs : List ℕ) → tally letter (x ∷ xs) ≡ tally letter (x ∷ []) + tally letter xs
tally_prefix letter x xs = elim (cases_eq x letter) [
  | inl e ↦ let a = tally_yes letter x xs e in let b = tally_yes letter x [] e in let c = tally-nil letter in omega (arith, a, b, c)
  | inr e ↦ let a = tally_no letter x xs e in let b = tally_no letter x [] e in let c = tally-nil letter in omega (arith, a, b, c)
]

some_counts : (counts word : List ℕ) → Reads counts word → 0 < length counts
some_counts counts [] r = let a = ap (λ (xs : List ℕ). length xs) r in omega (arith, a)
some_counts [] (x ∷ word) r = absurd r
some_counts (k ∷ above) (x ∷ word) r = omega arith

reads_equal : (counts word : List ℕ) → Reads counts word → tally OPEN word + length counts ≡ suc (tally CLOSE word)
reads_equal counts [] r = let a = ap (λ (xs : List ℕ). length xs) r in let b = tally-nil OPEN in let c = tally-nil CLOSE in omega (arith, a, b, c)
reads_equal [] (x ∷ word) r = absurd r
reads_equal (k ∷ above) (x ∷ word) r =
    let s = brackets_step k above x word r in
    let h = reads_equal s.0 word s.1.reads in
    let c = s.1.changes in
    let p = tally_prefix OPEN x word in
    let q = tally_prefix CLOSE x word in
    omega (arith, h, c, p, q)

reads_never : (counts word : List ℕ) (n : ℕ) → Reads counts word → suc (tally CLOSE (take n word)) ≤ tally OPEN (take n word) + length counts
reads_never counts word zero r = let a = some_counts counts word r in let b = tally-nil OPEN in let c = tally-nil CLOSE in omega (arith, a, b, c)
reads_never counts [] (suc n) r = let a = some_counts counts [] r in let b = tally-nil OPEN in let c = tally-nil CLOSE in omega (arith, a, b, c)
reads_never [] (x ∷ word) (suc n) r = absurd r
reads_never (k ∷ above) (x ∷ word) (suc n) r =
    let s = brackets_step k above x word r in
    let h = reads_never s.0 word n s.1.reads in
    let c = s.1.changes in
    let p = tally_prefix OPEN x (take n word) in
    let q = tally_prefix CLOSE x (take n word) in
    omega (arith, h, c, p, q)

reads_matched : (word : List ℕ) → Reads (1 ∷ []) word → IsMatched word
reads_matched word r = record {
  equal = (let h = reads_equal (1 ∷ []) word r in let a = tally_is OPEN word in let b = tally_is CLOSE word in omega (arith, h, a, b));
  never_below = λ n. let h = reads_never (1 ∷ []) word n r in let a = tally_is OPEN (take n word) in let b = tally_is CLOSE (take n word) in omega (arith, h, a, b);
}

pub reads_stem_tree : (word : List ℕ) → IsShort word → Reads (1 ∷ []) word → IsStemTree word
reads_stem_tree word short r =
    let m = reads_matched word r in
    record {
      in_order = record { letters = reads_letters (1 ∷ []) word r; matched = m };
      short = short;
      stems = reads_stems word word 0 root_node [] refl (omega arith) m (root_walks word) (reads_root word r);
    }
