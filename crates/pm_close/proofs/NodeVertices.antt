-- Walking around a node along the ring of places gives its entries.
use Rattle.std.proofs.Common.{◌≡◌, ◌≢◌, ℕ, zero, suc, ◌+◌, ◌-◌, ◌%◌, ◌<◌, ◌≤◌, ◌⊎◌, inl, inr, List, [], ◌∷◌, length, drop, map, refl, sym, ◌∙◌, ap, subst, lit<, arith}
use Rattle.std.specs.Prelude.{slice_index}
use Rattle.std.proofs.lemmas.Bool.{cases_lt, cases_eq}
use Rattle.std.proofs.lemmas.List.{get_or_past}
use Rattle.std.proofs.Math.Seq.{drop-cons}
use Rattle.pm_trees.specs.declared.letters.TheConstants.{LEAF}
use Rattle.pm_brackets.specs.declared.letters.TheConstants.{OPEN, CLOSE}
use Rattle.pm_brackets.specs.Word.{IsBracketPair, IsBracketing}
use Rattle.pm_trees.specs.Word.{contour}
use Rattle.pm_trees.specs.Node.{own_letters}
use Rattle.pm_trees.proofs.FourLetters.{bracketing_exists}
use Rattle.pm_brackets.proofs.Levels.{seen, seen_yes, seen_no, IsEven, even_start, even_other, even_pair, even_from_pair, even_from_matched, matched_from_even, pair_from_even}
use Rattle.pm_brackets.proofs.Nesting.{one_closer, one_opener}
use Rattle.pm_brackets.proofs.RingPlaces.{mod_stays}
use Rattle.pm_brackets.specs.Word.{IsOther}
use Rattle.pm_trees.proofs.Own.{other_here, other_above, open_above, close_above}
use Rattle.pm_map.specs.Structure.{Structure}
use Rattle.pm_map.specs.Meeting.{IsVertexFrom}
use Rattle.pm_close.specs.Closure.{IsAcross, from_open, from_close, from_letter, IsClosure}
use Rattle.pm_close.specs.Nodes.{IsEntry, AreEntries, IsNodeVertex, NodesAreVertices}
use Rattle.pm_close.proofs.ClosureLemmas.{bracketing_across, across_within, succ_last}

-- a letter that is no bracket, or a bracket
data IsKind (places : List ℕ) (p : ℕ) : Type 0 where
  opens : slice_index places p ≡ OPEN → IsKind places p
  closes : slice_index places p ≡ CLOSE → IsKind places p
  neither : IsOther (slice_index places p) → IsKind places p

kind : (places : List ℕ) (p : ℕ) → IsKind places p
kind places p = elim (cases_eq (slice_index places p) OPEN) [
  | inl o ↦ opens o
  | inr not_open ↦ elim (cases_eq (slice_index places p) CLOSE) [
    | inl c ↦ closes c
    | inr not_close ↦ neither (record { not_open = not_open; not_close = not_close })
  ]
]

-- the letters from a place on, by the letter there
from_here : (places : List ℕ) (p letter : ℕ) → p < length places → slice_index places p ≡ letter → drop p places ≡ letter ∷ drop (suc p) places
from_here places p letter l e = drop-cons places p 0 l ∙ ap (λ (x : ℕ). x ∷ drop (suc p) places) e

-- what stands inside brackets is no letter of the level around them
skip_from : (places : List ℕ) (p r d n i m : ℕ) → r < length places → IsEven places p r → slice_index places r ≡ CLOSE → r ≡ i + n → suc p ≤ i
    → m + (seen CLOSE places i + seen OPEN places (suc p)) ≡ suc d + (seen OPEN places i + seen CLOSE places (suc p)) → own_letters m (drop i places) ≡ own_letters d (drop (suc r) places)
skip_from places p r d zero i m l even close at after level =
    let here : i ≡ r = omega arith in
    let depth : m ≡ suc d = omega (arith, level, even.equal, ap (seen CLOSE places) here, ap (seen OPEN places) here) in
    ap (λ (k : ℕ). own_letters m (drop k places)) here ∙ ap (own_letters m) (from_here places r CLOSE l close)
    ∙ ap (λ (k : ℕ). own_letters k (CLOSE ∷ drop (suc r) places)) depth ∙ close_above d (drop (suc r) places)
skip_from places p r d (suc n) i m l even close at after level = elim (kind places i) [
  | opens o ↦
      let a = seen_yes OPEN places i (lit< tt) o in
      let b = seen_no CLOSE places i (λ c. two places i o c) in
      ap (own_letters m) (from_here places i OPEN (omega arith) o) ∙ ap (λ (k : ℕ). own_letters k (OPEN ∷ drop (suc i) places)) positive
      ∙ open_above (m - 1) (drop (suc i) places) ∙ ap (λ (k : ℕ). own_letters (suc k) (drop (suc i) places)) (sym positive)
      ∙ skip_from places p r d n (suc i) (suc m) l even close (omega arith) (omega arith) (omega (arith, a, b, level))
  | closes c ↦
      let a = seen_yes CLOSE places i (lit< tt) c in
      let b = seen_no OPEN places i (λ o. two places i o c) in
      ap (own_letters m) (from_here places i CLOSE (omega arith) c) ∙ ap (λ (k : ℕ). own_letters k (CLOSE ∷ drop (suc i) places)) positive
      ∙ close_above (m - 1) (drop (suc i) places)
      ∙ skip_from places p r d n (suc i) (m - 1) l even close (omega arith) (omega arith) (omega (arith, a, b, level, positive, even.below i after (omega arith), even.below (suc i) (omega arith) (omega arith)))
  | neither h ↦
      let a = seen_no OPEN places i h.not_open in
      let b = seen_no CLOSE places i h.not_close in
      ap (own_letters m) (from_here places i (slice_index places i) (omega arith) refl) ∙ ap (λ (k : ℕ). own_letters k (slice_index places i ∷ drop (suc i) places)) positive
      ∙ other_above (m - 1) (slice_index places i) (drop (suc i) places) h ∙ ap (λ (k : ℕ). own_letters k (drop (suc i) places)) (sym positive)
      ∙ skip_from places p r d n (suc i) m l even close (omega arith) (omega arith) (omega (arith, a, b, level))
] where
  positive : m ≡ suc (m - 1)
  positive = omega (arith, level, even.below i after (omega arith))

  two : (places : List ℕ) (i : ℕ) → slice_index places i ≡ OPEN → slice_index places i ≡ CLOSE → ⊥
  two places i o c = omega arith

skip : (places : List ℕ) (p r d : ℕ) → IsBracketPair places p r → r < length places → own_letters (suc d) (drop (suc p) places) ≡ own_letters d (drop (suc r) places)
skip places p r d pair l = skip_from places p r d (r - suc p) (suc p) (suc d) l (even_from_pair places p r pair) pair.closes (let b = pair.before in omega arith) (omega arith) (omega arith)

-- the entries of a level from a place on, and the place where the level ends
data Entries (places : List ℕ) (across : ℕ → ℕ) : ℕ → List ℕ → ℕ → Type 0 where
  all_met : (p : ℕ) → (p ≡ length places) ⊎ (slice_index places p ≡ CLOSE) → Entries places across p [] p
  one_more : (p : ℕ) (es : List ℕ) (end : ℕ) → p < length places → (slice_index places p ≡ CLOSE → ⊥) → Entries places across (suc (across p)) es end → Entries places across p (p ∷ es) end

module _ (places : List ℕ) (across : ℕ → ℕ) (is_across : (p : ℕ) → p < length places → IsAcross places p (across p)) where
  -- from a place that closes nothing the place across isn't before it
  onward : (p : ℕ) → p < length places → (slice_index places p ≡ CLOSE → ⊥) → p ≤ across p
  onward p l not_close = elim (is_across p l) [
    | from_open h ↦ (let b = h.before in omega arith)
    | from_close h ↦ absurd (not_close h.closes)
    | from_letter _ _ e ↦ omega arith
  ]

  below : (p : ℕ) → p < length places → across p < length places
  below p l = across_within places p (across p) l (is_across p l)

  -- there are some
  entries_exist : (n p : ℕ) → p ≤ length places → length places ≤ p + n → (es : List ℕ) × ((end : ℕ) × Entries places across p es end)
  entries_exist zero p le ge = ([], (p, all_met p (inl (omega arith))))
  entries_exist (suc n) p le ge = elim (cases_eq p (length places)) [
    | inl e ↦ ([], (p, all_met p (inl e)))
    | inr ne ↦ elim (cases_eq (slice_index places p) CLOSE) [
      | inl c ↦ ([], (p, all_met p (inr c)))
      | inr not_close ↦
          let l : p < length places = omega arith in
          let rest = entries_exist n (suc (across p)) (omega (arith, below p l)) (omega (arith, onward p l not_close)) in
          (p ∷ rest.0, (rest.1.0, one_more p rest.0 rest.1.0 l not_close rest.1.1))
    ]
  ]

  -- their letters are those of the level
  entries_letters : (p : ℕ) (es : List ℕ) (end : ℕ) → Entries places across p es end → map (slice_index places) es ≡ own_letters 0 (drop p places)
  entries_letters _ _ _ (all_met p why) = elim why [
    | inl e ↦ sym (ap (own_letters 0) (drop_all places p (omega arith)))
    | inr c ↦ sym (ap (own_letters 0) (from_here places p CLOSE (within_close p c) c))
  ] where
    drop_all : (xs : List ℕ) (n : ℕ) → length xs ≤ n → drop n xs ≡ []
    drop_all [] zero l = refl
    drop_all [] (suc n) l = refl
    drop_all (x ∷ xs) zero l = absurd (omega arith)
    drop_all (x ∷ xs) (suc n) l = drop_all xs n (omega arith)

    within_close : (p : ℕ) → slice_index places p ≡ CLOSE → p < length places
    within_close p c = elim (cases_lt p (length places)) [ inl h ↦ h | inr h ↦ absurd (omega (arith, get_or_past places p 0 h)) ]
  entries_letters _ _ _ (one_more p es end l not_close rest) =
      ap (λ (ls : List ℕ). slice_index places p ∷ ls) (entries_letters (suc (across p)) es end rest) ∙ sym (elim (is_across p l) [
        | from_open h ↦ ap (own_letters 0) (from_here places p OPEN l h.opens) ∙ ap (λ (ls : List ℕ). OPEN ∷ ls) (skip places p (across p) 0 h (below p l))
            ∙ ap (λ (x : ℕ). x ∷ own_letters 0 (drop (suc (across p)) places)) (sym h.opens)
        | from_close h ↦ absurd (not_close h.closes)
        | from_letter not_open _ e ↦ ap (own_letters 0) (from_here places p (slice_index places p) l refl)
            ∙ other_here (slice_index places p) (drop (suc p) places) (record { not_open = not_open; not_close = not_close })
            ∙ ap (λ (k : ℕ). slice_index places p ∷ own_letters 0 (drop (suc k) places)) e
      ])

  -- where the level ends
  entries_end : (p : ℕ) (es : List ℕ) (end : ℕ) → Entries places across p es end → (end ≡ length places) ⊎ (slice_index places end ≡ CLOSE)
  entries_end _ _ _ (all_met p why) = why
  entries_end _ _ _ (one_more p es end l not_close rest) = entries_end (suc (across p)) es end rest

  -- where brackets match up to a place that closes nothing, they match up to the one behind the place across
  even_on : (a p : ℕ) → p < length places → (slice_index places p ≡ CLOSE → ⊥) → a < p → IsEven places a p → IsEven places a (suc (across p))
  even_on a p l not_close less even = elim (is_across p l) [
    | from_open h ↦ even_pair places a p (across p) less h.before h.opens h.closes even (even_from_pair places p (across p) h)
    | from_close h ↦ absurd (not_close h.closes)
    | from_letter not_open _ e ↦ subst (λ (k : ℕ). IsEven places a (suc k)) e (even_other places a p less (record { not_open = not_open; not_close = not_close }) even)
  ]

  -- brackets match from the level's beginning to its end
  entries_even : (a p : ℕ) (es : List ℕ) (end : ℕ) → Entries places across p es end → a < p → IsEven places a p → IsEven places a end
  entries_even a _ _ _ (all_met p why) l even = even
  entries_even a _ _ _ (one_more p es end l not_close rest) less even =
      entries_even a (suc (across p)) es end rest (omega (arith, onward p l not_close)) (even_on a p l not_close less even)

  -- they are entries of the node at whose place the level begins
  entries_each : (a p : ℕ) (es : List ℕ) (end : ℕ) → Entries places across p es end → a < p → IsEven places a p → (k : ℕ) → k < length es → IsEntry places a (slice_index es k)
  entries_each a _ _ _ (all_met p why) less even k m = absurd (omega arith)
  entries_each a _ _ _ (one_more p es end l not_close rest) less even zero m = record { after = less; within = l; matched = matched_from_even places a p less even; no_close = not_close }
  entries_each a _ _ _ (one_more p es end l not_close rest) less even (suc k) m =
      entries_each a (suc (across p)) es end rest (omega (arith, onward p l not_close)) (even_on a p l not_close less even) k (omega arith)

  -- no entry of a level stands behind its end
  past_close : (a p q : ℕ) → slice_index places p ≡ CLOSE → a < p → IsEven places a p → p ≤ q → IsEntry places a q → ⊥
  past_close a p q close less even le is = elim (cases_eq p q) [
    | inl same ↦ is.no_close (ap (slice_index places) (sym same) ∙ close)
    | inr ne ↦
        let whole = even_from_matched places a q is.after is.matched in
        let up = seen_yes CLOSE places p (lit< tt) close in
        let same = seen_no OPEN places p (λ o. two o) in
        omega (arith, whole.below (suc p) (omega arith) (omega arith), up, same, even.equal)
  ] where
    two : slice_index places p ≡ OPEN → ⊥
    two o = omega arith

  -- none stands between two brackets of the level
  past_pair : (a p r q : ℕ) → IsBracketPair places p r → a < p → IsEven places a p → p < q → IsEntry places a q → r < q
  past_pair a p r q pair less even l is = elim (cases_lt r q) [
    | inl h ↦ h
    | inr h ↦
        let whole = even_from_matched places a q is.after is.matched in
        let inner = even_from_pair places p r pair in
        let up = seen_yes OPEN places p (lit< tt) pair.opens in
        let same = seen_no CLOSE places p (λ c. two pair.opens c) in
        absurd (omega (arith, whole.equal, even.equal, up, same, inner.below q (omega arith) (omega arith)))
  ] where
    two : slice_index places p ≡ OPEN → slice_index places p ≡ CLOSE → ⊥
    two o c = omega arith

  -- and each is met
  entries_all : (a p : ℕ) (es : List ℕ) (end : ℕ) → Entries places across p es end → a < p → IsEven places a p → (q : ℕ) → p ≤ q → IsEntry places a q
      → (k : ℕ) × (k < length es) × (slice_index es k ≡ q)
  entries_all a _ _ _ (all_met p why) less even q le is = elim why [
    | inl e ↦ absurd (let inside = is.within in omega arith)
    | inr c ↦ absurd (past_close a p q c less even le is)
  ]
  entries_all a _ _ _ (one_more p es end l not_close rest) less even q le is = elim (cases_eq p q) [
    | inl same ↦ (0, omega arith, same)
    | inr ne ↦
        let beyond : across p < q = elim (is_across p l) [
          | from_open h ↦ past_pair a p (across p) q h less even (omega arith) is
          | from_close h ↦ absurd (not_close h.closes)
          | from_letter _ _ e ↦ omega arith
        ] in
        let later = entries_all a (suc (across p)) es end rest (omega (arith, onward p l not_close)) (even_on a p l not_close less even) q beyond is in
        (suc later.0, (let m = later.1 in omega arith), later.2)
  ]

  -- each leads to the next, and the last to the end
  entries_go : (p : ℕ) (es : List ℕ) (end : ℕ) → Entries places across p es end → (x : ℕ) → suc (across x) ≡ p
      → (k : ℕ) → suc k < length (x ∷ es) → slice_index (x ∷ es) (suc k) ≡ suc (across (slice_index (x ∷ es) k)) % length places
  entries_go _ _ _ (all_met p why) x e k l = absurd (omega arith)
  entries_go _ _ _ (one_more p es end l not_close rest) x e zero m = sym (ap (λ (q : ℕ). q % length places) e ∙ mod_stays p (length places) l)
  entries_go _ _ _ (one_more p es end l not_close rest) x e (suc k) m = entries_go (suc (across p)) es end rest p refl k (omega arith)

  entries_last : (p : ℕ) (es : List ℕ) (end : ℕ) → Entries places across p es end → (x : ℕ) → suc (across x) ≡ p → suc (across (slice_index (x ∷ es) (length es))) ≡ end
  entries_last _ _ _ (all_met p why) x e = e
  entries_last _ _ _ (one_more p es end l not_close rest) x e = entries_last (suc (across p)) es end rest p refl

  -- they stand between the beginning and the end, in the contour
  record IsInside (p end e : ℕ) : Type 0 where
    low : p ≤ e
    high : e < end
    inside : e < length places

  entries_inside : (p : ℕ) (es : List ℕ) (end : ℕ) → Entries places across p es end → (p ≤ end) × ((k : ℕ) → k < length es → IsInside p end (slice_index es k))
  entries_inside _ _ _ (all_met p why) = (omega arith, λ k l. absurd (omega arith))
  entries_inside _ _ _ (one_more p es end l not_close rest) =
      let later = entries_inside (suc (across p)) es end rest in
      let up = onward p l not_close in
      let reach = later.0 in
      (omega arith, inside_more p es end l up reach later.1) where
        inside_more : (p : ℕ) (es : List ℕ) (end : ℕ) → p < length places → p ≤ across p → suc (across p) ≤ end
            → ((k : ℕ) → k < length es → IsInside (suc (across p)) end (slice_index es k)) → (k : ℕ) → k < length (p ∷ es) → IsInside p end (slice_index (p ∷ es) k)
        inside_more p es end l up reach later zero m = record { low = omega arith; high = omega arith; inside = l }
        inside_more p es end l up reach later (suc k) m =
            let h = later k (omega arith) in record { low = omega (arith, h.low); high = h.high; inside = h.inside }

  -- they rise
  entries_rise : (p : ℕ) (es : List ℕ) (end : ℕ) → Entries places across p es end → (j k : ℕ) → j < k → k < length es → slice_index es j < slice_index es k
  entries_rise _ _ _ (all_met p why) j k less m = absurd (omega arith)
  entries_rise _ _ _ (one_more p es end l not_close rest) j zero less m = absurd (omega arith)
  entries_rise _ _ _ (one_more p es end l not_close rest) zero (suc k) less m =
      let later = ((entries_inside (suc (across p)) es end rest).1 k (omega arith)).low in omega (arith, later, onward p l not_close)
  entries_rise _ _ _ (one_more p es end l not_close rest) (suc j) (suc k) less m = entries_rise (suc (across p)) es end rest j k (omega arith) (omega arith)

  -- so the run from behind a node's place has its entries
  entries_of : (a : ℕ) (es : List ℕ) (end : ℕ) → Entries places across (suc a) es end → AreEntries places a es
  entries_of a es end run = record {
    each = entries_each a (suc a) es end run (omega arith) (even_start places a);
    rising = entries_rise (suc a) es end run;
    all = λ q is. entries_all a (suc a) es end run (omega arith) (even_start places a) q (let b = is.after in omega arith) is;
  }

  -- from a head, around its node, and back
  vertex_from : (closure : Structure) → IsClosure places closure → (head p : ℕ) (es : List ℕ) (end : ℕ) → head < length places → suc (across head) ≡ p → end % length places ≡ head
      → ((k : ℕ) → k < length es → slice_index es k ≢ head) → Entries places across p es end → IsVertexFrom closure head (head ∷ es)
  vertex_from closure is head p es end l e back apart run =
      let inside = (entries_inside p es end run).1 in
      record {
        begins = refl;
        goes = λ k m. entries_go p es end run head e k m ∙ sym (next_of closure is (slice_index (head ∷ es) k) (all_inside head es l (λ j n. (inside j n).inside) k (omega arith)));
        ends = (let size : length (head ∷ es) - 1 ≡ length es = omega arith in
            ap (λ (k : ℕ). closure.next (slice_index (head ∷ es) k)) size
            ∙ next_of closure is (slice_index (head ∷ es) (length es)) (all_inside head es l (λ j n. (inside j n).inside) (length es) (omega arith))
            ∙ ap (λ (k : ℕ). k % length places) (entries_last p es end run head e) ∙ back);
        once = λ k m. apart k (omega arith);
      } where
        next_of : (closure : Structure) → IsClosure places closure → (q : ℕ) → q < length places → closure.next q ≡ suc (across q) % length places
        next_of closure is q l = is.rotation q (across q) l (is_across q l)

        all_inside : (head : ℕ) (es : List ℕ) → head < length places → ((j : ℕ) → j < length es → slice_index es j < length places) → (k : ℕ) → k < length (head ∷ es) → slice_index (head ∷ es) k < length places
        all_inside head es l each zero m = l
        all_inside head es l each (suc k) m = each k (omega arith)

-- the node of a bracket pair ends at its closing bracket
ends_at_close : (places : List ℕ) (across : ℕ → ℕ) (a q : ℕ) (end : ℕ) → q < length places → IsBracketPair places a q → IsEven places a end → a < end → end ≤ length places
    → (end ≡ length places) ⊎ (slice_index places end ≡ CLOSE) → end ≡ q
ends_at_close places across a q end l pair even less le why = elim why [
  | inr c ↦ one_closer places a end q (pair_from_even places a end less pair.opens c even) pair
  | inl last ↦
      let of_pair = even_from_pair places a q pair in
      let up = seen_yes CLOSE places q (lit< tt) pair.closes in
      let same = seen_no OPEN places q (λ o. two places q o pair.closes) in
      let b = pair.before in
      absurd (omega (arith, of_pair.equal, up, same, even.below (suc q) (omega arith) (omega arith)))
] where
  two : (places : List ℕ) (i : ℕ) → slice_index places i ≡ OPEN → slice_index places i ≡ CLOSE → ⊥
  two places i o c = omega arith

-- the root node ends with the word
ends_with_word : (places other : List ℕ) (end : ℕ) → IsBracketing places other → slice_index places 0 ≡ LEAF → IsEven places 0 end → 0 < end
    → (end ≡ length places) ⊎ (slice_index places end ≡ CLOSE) → end ≡ length places
ends_with_word places other end bracketing plant even less why = elim why [
  | inl last ↦ last
  | inr c ↦
      let pair = bracketing.of_close end c in
      let s = slice_index other end in
      let of_pair = even_from_pair places (slice_index other end) end pair in
      let up = seen_yes OPEN places (slice_index other end) (lit< tt) pair.opens in
      let same = seen_no CLOSE places (slice_index other end) (λ x. two places (slice_index other end) pair.opens x) in
      let b = pair.before in
      let some : 0 < slice_index other end = positive places (slice_index other end) plant pair.opens in
      absurd (omega (arith, even.equal, of_pair.equal, up, same, even.below (slice_index other end) (omega arith) (omega arith)))
] where
  two : (places : List ℕ) (i : ℕ) → slice_index places i ≡ OPEN → slice_index places i ≡ CLOSE → ⊥
  two places i o c = omega arith

  positive : (places : List ℕ) (i : ℕ) → slice_index places 0 ≡ LEAF → slice_index places i ≡ OPEN → 0 < i
  positive places zero plant o = absurd (omega arith)
  positive places (suc i) plant o = omega arith

-- each node of a tree is a vertex of its closure
pub node_vertices : NodesAreVertices
node_vertices word closure order is node named =
    let bracketing = bracketing_exists word order in
    elim (cases_eq node 0) [
      | inl root ↦ at_root word closure is bracketing.0 bracketing.1 node root
      | inr deeper ↦ elim named [
        | inl root ↦ absurd (deeper root)
        | inr opened ↦ at_bracket word closure is bracketing.0 bracketing.1 node opened
      ]
    ] where
      around : (other : List ℕ) (word : List ℕ) → IsBracketing (contour word) other → (p : ℕ) → p < length (contour word) → IsAcross (contour word) p (slice_index other p)
      around other word bracketing p l = bracketing_across (contour word) other bracketing p l

      at_root : (word : List ℕ) (closure : Structure) → IsClosure (contour word) closure → (other : List ℕ) → IsBracketing (contour word) other → (node : ℕ) → node ≡ 0
          → (vertex : List ℕ) × IsNodeVertex (contour word) closure node vertex
      at_root word closure is other bracketing node root =
          let places = contour word in
          let across = slice_index other in
          let met = around other word bracketing in
          let run = entries_exist (contour word) (slice_index other) (around other word bracketing) (length word) 1 (omega arith) (omega arith) in
          let es = run.0 in
          let end = run.1.0 in
          let even = entries_even (contour word) (slice_index other) (around other word bracketing) 0 1 run.0 run.1.0 run.1.1 (omega arith) (even_start (contour word) 0) in
          let inside = entries_inside (contour word) (slice_index other) (around other word bracketing) 1 run.0 run.1.0 run.1.1 in
          let last : run.1.0 ≡ length (contour word) = ends_with_word (contour word) other run.1.0 bracketing refl even (omega (arith, inside.0)) (entries_end (contour word) (slice_index other) (around other word bracketing) 1 run.0 run.1.0 run.1.1) in
          let alone : slice_index other 0 ≡ 0 = bracketing.of_letter 0 (omega arith) (λ e. plant_is e (omega arith)) (λ e. plant_is e (omega arith)) in (
            0 ∷ run.0,
            record {
              head = 0;
              is_head = inl (root, refl);
              is_vertex = vertex_from (contour word) (slice_index other) (around other word bracketing) closure is 0 1 run.0 run.1.0 (omega arith) (ap suc alone)
                  (ap (λ (k : ℕ). k % length (contour word)) last ∙ succ_last (length (contour word)) (omega arith)) (λ k l e. not_zero (slice_index run.0 k) (inside.1 k l).low e) run.1.1;
              entries_are = subst (λ (n : ℕ). AreEntries (contour word) n run.0) (sym root) (entries_of (contour word) (slice_index other) (around other word bracketing) 0 run.0 run.1.0 run.1.1);
              letters_are = entries_letters (contour word) (slice_index other) (around other word bracketing) 1 run.0 run.1.0 run.1.1
                  ∙ ap (λ (n : ℕ). own_letters 0 (drop (suc n) (contour word))) (sym root);
            },
          ) where
            plant_is : {x : ℕ} → LEAF ≡ x → LEAF ≢ x → ⊥
            plant_is e ne = ne e

            not_zero : (e : ℕ) → 1 ≤ e → e ≡ 0 → ⊥
            not_zero e l z = omega arith

      at_bracket : (word : List ℕ) (closure : Structure) → IsClosure (contour word) closure → (other : List ℕ) → IsBracketing (contour word) other → (node : ℕ) → slice_index (contour word) node ≡ OPEN
          → (vertex : List ℕ) × IsNodeVertex (contour word) closure node vertex
      at_bracket word closure is other bracketing node opened =
          let pair = bracketing.of_open node opened in
          let b = pair.before in
          let q = slice_index other node in
          let inside_q : slice_index other node < length (contour word) = close_inside (contour word) (slice_index other node) pair.closes in
          let run = entries_exist (contour word) (slice_index other) (around other word bracketing) (length (contour word)) (suc node) (omega arith) (omega arith) in
          let even = entries_even (contour word) (slice_index other) (around other word bracketing) node (suc node) run.0 run.1.0 run.1.1 (omega arith) (even_start (contour word) node) in
          let inside = entries_inside (contour word) (slice_index other) (around other word bracketing) (suc node) run.0 run.1.0 run.1.1 in
          let last : run.1.0 ≡ slice_index other node = ends_at_close (contour word) (slice_index other) node (slice_index other node) run.1.0 inside_q pair even (omega (arith, inside.0))
          (end_inside (contour word) (slice_index other) (suc node) run.0 run.1.0 (around other word bracketing) run.1.1 (omega arith))
          (entries_end (contour word) (slice_index other) (around other word bracketing) (suc node) run.0 run.1.0 run.1.1) in
          let back : slice_index other (slice_index other node) ≡ node = one_opener_of (contour word) other node bracketing pair in (
            slice_index other node ∷ run.0,
            record {
              head = slice_index other node;
              is_head = inr pair;
              is_vertex = vertex_from (contour word) (slice_index other) (around other word bracketing) closure is (slice_index other node) (suc node) run.0 run.1.0 inside_q (ap suc back)
                  (ap (λ (k : ℕ). k % length (contour word)) last ∙ mod_stays (slice_index other node) (length (contour word)) inside_q)
                  (λ k l e. not_end (slice_index run.0 k) run.1.0 (slice_index other node) (inside.1 k l).high last e) run.1.1;
              entries_are = entries_of (contour word) (slice_index other) (around other word bracketing) node run.0 run.1.0 run.1.1;
              letters_are = entries_letters (contour word) (slice_index other) (around other word bracketing) (suc node) run.0 run.1.0 run.1.1;
            },
          ) where
            close_inside : (places : List ℕ) (p : ℕ) → slice_index places p ≡ CLOSE → p < length places
            close_inside places p c = elim (cases_lt p (length places)) [ inl h ↦ h | inr h ↦ absurd (omega (arith, get_or_past places p 0 h)) ]

            one_opener_of : (places other : List ℕ) (node : ℕ) → IsBracketing places other → IsBracketPair places node (slice_index other node) → slice_index other (slice_index other node) ≡ node
            one_opener_of places other node bracketing pair = one_opener places (slice_index other (slice_index other node)) (slice_index other node) node (bracketing.of_close (slice_index other node) pair.closes) pair

            end_inside : (places : List ℕ) (across : ℕ → ℕ) (p : ℕ) (es : List ℕ) (end : ℕ) → ((k : ℕ) → k < length places → IsAcross places k (across k)) → Entries places across p es end → p ≤ length places → end ≤ length places
            end_inside places across _ _ _ met (all_met p why) le = le
            end_inside places across _ _ _ met (one_more p es end l not_close rest) le = end_inside places across (suc (across p)) es end met rest (omega (arith, across_within places p (across p) l (met p l)))

            not_end : (e end q : ℕ) → e < end → end ≡ q → e ≡ q → ⊥
            not_end e end q l a b = omega arith
