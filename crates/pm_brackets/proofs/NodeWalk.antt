-- Walks over a word that keep its open nodes, and of each of them what was read so far.
use Rattle.std.proofs.Common.{◌≡◌, ℕ, zero, suc, ◌+◌, ◌≤◌, ◌<◌, ◌⊎◌, inl, inr, List, [], ◌∷◌, ◌++◌, length, take, drop, reverse, slice_index, Option, Some, None, MatchOption, option_to_list, refl, ap, ◌∙◌, sym, subst, arith, take_all}
use Rattle.std.proofs.lemmas.Bool.{cases_eq}
use Rattle.std.proofs.lemmas.List.{nil_from_length, reverse-append}
use Rattle.pm_brackets.specs.declared.letters.TheConstants.{OPEN, CLOSE}
use Rattle.pm_brackets.specs.First.{IsFirst}
use Rattle.pm_brackets.specs.Node.{IsNode, node_at, open_before}
use Rattle.pm_brackets.specs.Noted.{IsNoted}
use Rattle.pm_brackets.specs.Word.{IsMatched, IsOther, count}
use Rattle.pm_brackets.proofs.Least.{IsLeastOf, first_of_all, least_fewer, least_none, least_noted}
use Rattle.pm_brackets.proofs.Levels.{inside, seen, seen_is, seen_no, seen_none, seen_yes}
use Rattle.pm_brackets.proofs.OpenBrackets.{IsGone, open_at_close, open_at_open, open_at_other}
use Rattle.pm_brackets.proofs.Tally.{tally_is}

-- where n brackets are open before a `)`, there are some
pub some_open : (word : List ℕ) (i n : ℕ) → IsMatched word → slice_index word i ≡ CLOSE → seen CLOSE word i + n ≡ seen OPEN word i → 0 < n
some_open word i n m c x =
    let a = seen_yes CLOSE word i (omega arith) c in
    let b = seen_no OPEN word i (λ e. omega arith) in
    let d = seen_is CLOSE word (suc i) in
    let e = seen_is OPEN word (suc i) in
    let f = tally_is CLOSE (take (suc i) word) in
    let g = tally_is OPEN (take (suc i) word) in
    let h = m.never_below (suc i) in
    omega (arith, a, b, d, e, f, g, h, x)

-- and at the end there is none
pub none_open : (word : List ℕ) (n : ℕ) → IsMatched word → seen CLOSE word (length word) + n ≡ seen OPEN word (length word) → n ≡ 0
none_open word n m e =
    let t : take (length word) word ≡ word = take_all (length word) word (omega arith) in
    let a = seen_is OPEN word (length word) ∙ tally_is OPEN (take (length word) word) ∙ ap (count OPEN) t in
    let b = seen_is CLOSE word (length word) ∙ tally_is CLOSE (take (length word) word) ∙ ap (count CLOSE) t in
    omega (arith, a, b, e, m.equal)

is_node_at : (places : List ℕ) (p q : ℕ) → p ≡ q → IsNode places q → IsNode places p
is_node_at places p q e h = let P : ℕ → Type 0 = λ k. IsNode places k in subst P (sym e) h

match_weaker : (found : Option ℕ) (P Q : Type 0) (R : ℕ → Type 0) → (P → Q) → MatchOption found P R → MatchOption found Q R
match_weaker None P Q R h m = h m
match_weaker (Some p) P Q R h m = m

-- V is what is kept of an open node, `place` where the node stands; Holds depth v i says that before letter i of the word what is
-- kept is right, so many open nodes below the innermost one.
module _ (V : Type 0) (place : V → ℕ) where
  -- each lies before the one inside it, and the last is the root node
  abbrev pub AreBefore : V → List V → Type 0
  AreBefore node [] = place node ≡ 0
  AreBefore node (n ∷ rest) = (place n < place node) × AreBefore n rest

  -- their brackets; the root node has none
  abbrev pub open_places : V → List V → List ℕ
  open_places node [] = []
  open_places node (n ∷ rest) = place node ∷ open_places n rest

  abbrev pub IsAbove : ℕ → List V → Type 0
  IsAbove p [] = ⊥
  IsAbove p (n ∷ rest) = (p ≡ place n) ⊎ IsAbove p rest

  above_less : (node : V) (above : List V) (k : ℕ) → AreBefore node above → IsAbove k above → k < place node
  above_less node [] k o a = absurd a
  above_less node (n ∷ rest) k o a =
      elim a [
        | inl e ↦ (let l = o.0 in omega (arith, e, l))
        | inr b ↦ (let h = above_less n rest k o.1 b in let l = o.0 in omega (arith, h, l))
      ]

  places_up : (node : V) (above : List V) (k : ℕ) → AreBefore node above → slice_index (open_places node above) k ≤ place node
  places_up node [] k o = omega arith
  places_up node (n ∷ rest) zero o = omega arith
  places_up node (n ∷ rest) (suc k) o = let h = places_up n rest k o.1 in let l = o.0 in omega (arith, h, l)

  order_same : (node next : V) (above : List V) → place next ≡ place node → AreBefore node above → AreBefore next above
  order_same node next [] e h = e ∙ h
  order_same node next (n ∷ rest) e h = (let l = h.0 in omega (arith, e, l), h.1)

  places_same : (node next : V) (above : List V) → place next ≡ place node → open_places node above ≡ open_places next above
  places_same node next [] e = refl
  places_same node next (n ∷ rest) e = ap (λ (p : ℕ). p ∷ open_places n rest) (sym e)

  -- the node that the place of a letter belongs to
  node_here : (places : List ℕ) (node : V) (above : List V) (p : ℕ) → AreBefore node above → open_before places p ≡ open_places node above → node_at places p ≡ place node
  node_here places node [] p o e = ap (λ (xs : List ℕ). slice_index xs 0) e ∙ sym o
  node_here places node (n ∷ rest) p o e = ap (λ (xs : List ℕ). slice_index xs 0) e

  -- a node before letter i that is closed
  pub record IsDone (places : List ℕ) (node : V) (above : List V) (i k : ℕ) : Type 0 where
    pub is_node : IsNode places k
    pub before : k ≤ i
    pub not_here : k ≡ place node → ⊥
    pub not_above : IsAbove k above → ⊥

  module _ (plant : ℕ) (word : List ℕ) where
    -- a node by the next place is a node before it, unless the letter opens it
    node_before : (i k : ℕ) → (slice_index word i ≡ OPEN → ⊥) → IsNode (plant ∷ word) k → k ≤ suc i → k ≤ i
    node_before i k n h l =
        elim (cases_eq k (suc i)) [
          | inl e ↦ elim (is_node_at (plant ∷ word) (suc i) k (sym e) h) [ inl z ↦ absurd (omega arith) | inr o ↦ absurd (n o) ]
          | inr m ↦ omega arith
        ]

    -- the least place with a property among the nodes that are closed
    pub least_start : (Bad : ℕ → Type 0) (node : V) (found : Option ℕ) → place node ≡ 0 → found ≡ None → IsLeastOf Bad (IsDone (plant ∷ word) node [] 0) found
    least_start Bad node found p f =
        let D : Option ℕ → Type 0 = λ o. IsLeastOf Bad (IsDone (plant ∷ word) node [] 0) o in
        subst D (sym f) (least_none Bad (IsDone (plant ∷ word) node [] 0) (λ k d. d.not_here (let b = d.before in omega (arith, b, p))))

    pub least_other : (Bad : ℕ → Type 0) (node next : V) (above : List V) (found : Option ℕ) (i : ℕ) → IsOther (slice_index word i) → place next ≡ place node → IsLeastOf Bad (IsDone (plant ∷ word) node above i) found → IsLeastOf Bad (IsDone (plant ∷ word) next above (suc i)) found
    least_other Bad node next above found i o e r =
        least_fewer Bad (IsDone (plant ∷ word) node above i) (IsDone (plant ∷ word) next above (suc i)) found (λ k d. record {
          is_node = d.is_node;
          before = node_before i k o.not_open d.is_node d.before;
          not_here = λ f. d.not_here (f ∙ sym e);
          not_above = d.not_above;
        }) r

    pub least_open : (Bad : ℕ → Type 0) (node next child : V) (above : List V) (found : Option ℕ) (i : ℕ) → place next ≡ place node → place child ≡ suc i → IsLeastOf Bad (IsDone (plant ∷ word) node above i) found → IsLeastOf Bad (IsDone (plant ∷ word) child (next ∷ above) (suc i)) found
    least_open Bad node next child above found i e p r =
        least_fewer Bad (IsDone (plant ∷ word) node above i) (IsDone (plant ∷ word) child (next ∷ above) (suc i)) found (λ k d. record {
          is_node = d.is_node;
          before = let m = d.before in let n : k ≡ suc i → ⊥ = λ f. d.not_here (f ∙ sym p) in omega arith;
          not_here = λ f. d.not_above (inl (f ∙ sym e));
          not_above = λ f. d.not_above (inr f);
        }) r

    pub least_close : (Bad : ℕ → Type 0) (Right : Type 0) (node parent : V) (above : List V) (found new : Option ℕ) (i : ℕ) → slice_index word i ≡ CLOSE → (Right → Bad (place node) → ⊥) → ((Right → ⊥) → Bad (place node)) → IsNoted Right found new (place node)
        → IsLeastOf Bad (IsDone (plant ∷ word) node (parent ∷ above) i) found → IsLeastOf Bad (IsDone (plant ∷ word) parent above (suc i)) new
    least_close Bad Right node parent above found new i c good bad n r =
        least_fewer Bad (λ k. IsDone (plant ∷ word) node (parent ∷ above) i k ⊎ (k ≡ place node)) (IsDone (plant ∷ word) parent above (suc i)) new (λ k d.
        elim (cases_eq k (place node)) [
          | inl e ↦ inr e
          | inr m ↦ inl (record {
            is_node = d.is_node;
            before = node_before i k (λ e. omega arith) d.is_node d.before;
            not_here = m;
            not_above = λ e. elim e [ inl f ↦ d.not_here f | inr f ↦ d.not_above f ];
          })
        ]) (least_noted Bad (IsDone (plant ∷ word) node (parent ∷ above) i) Right found new (place node) good bad n r)

    node_within : (k : ℕ) → IsNode (plant ∷ word) k → k ≤ length word
    node_within k h = elim h [ inl e ↦ omega arith | inr o ↦ let l = inside (plant ∷ word) k OPEN (omega arith) o in omega arith ]

    -- at the end each other node is closed
    pub least_end : (Bad : ℕ → Type 0) (Right Good : Type 0) (node : V) (above : List V) (found new : Option ℕ) (i : ℕ) → i ≡ length word → above ≡ [] → ((k : ℕ) → Bad k → IsNode (plant ∷ word) k) → (((k : ℕ) → Bad k → ⊥) → Good)
        → (Right → Bad (place node) → ⊥) → ((Right → ⊥) → Bad (place node)) → IsNoted Right found new (place node) → IsLeastOf Bad (IsDone (plant ∷ word) node above i) found → MatchOption new Good (IsFirst Bad)
    least_end Bad Right Good node above found new i e none are_nodes all good bad n r =
        match_weaker new ((k : ℕ) → Bad k → ⊥) Good (IsFirst Bad) all
        (first_of_all Bad (λ k. IsDone (plant ∷ word) node above i k ⊎ (k ≡ place node)) new (λ k b.
        elim (cases_eq k (place node)) [
          | inl f ↦ inr f
          | inr m ↦ inl (record {
            is_node = are_nodes k b;
            before = let l = node_within k (are_nodes k b) in omega (arith, l, e);
            not_here = m;
            not_above = λ a. let P : List V → Type 0 = λ xs. IsAbove k xs in subst P none a;
          })
        ]) (least_noted Bad (IsDone (plant ∷ word) node above i) Right found new (place node) good bad n r))

    module _ (Holds : ℕ → V → ℕ → Type 0) where
      -- an open node, and those above it, the nearest first
      pub record IsHeld (node : V) (depth i : ℕ) : Type 0 where
        pub is_node : IsNode (plant ∷ word) (place node)
        pub holds : Holds depth node i

      abbrev pub AreHeld : List V → ℕ → ℕ → Type 0
      AreHeld [] depth i = Unit {0}
      AreHeld (n ∷ rest) depth i = IsHeld n (suc depth) i × AreHeld rest (suc depth) i

      pub record IsWalk (node : V) (above : List V) (i : ℕ) : Type 0 where
        pub stack : open_before (plant ∷ word) (suc i) ≡ open_places node above
        pub here : IsHeld node 0 i
        pub over : AreHeld above 0 i
        pub order : AreBefore node above
        pub before : place node ≤ i
        pub level : seen CLOSE word i + length above ≡ seen OPEN word i

      pub walk_node : (node : V) (above : List V) (i : ℕ) → IsWalk node above i → node_at (plant ∷ word) (suc i) ≡ place node
      walk_node node above i w = node_here (plant ∷ word) node above (suc i) w.order w.stack

      over_same : (above : List V) (depth i bound : ℕ) → ((n : V) → IsAbove (place n) above → place n < bound) → ((n : V) (d : ℕ) → place n < bound → Holds (suc d) n i → Holds (suc d) n (suc i))
          → AreHeld above depth i → AreHeld above depth (suc i)
      over_same [] depth i bound less next h = tt
      over_same (n ∷ rest) depth i bound less next h = (
        record { is_node = h.0.is_node; holds = next n depth (less n (inl refl)) h.0.holds },
        over_same rest (suc depth) i bound (λ k a. less k (inr a)) next h.1,
      )

      over_more : (above : List V) (depth i bound : ℕ) → ((n : V) → IsAbove (place n) above → place n < bound) → ((n : V) (d : ℕ) → place n < bound → Holds (suc d) n i → Holds (suc (suc d)) n (suc i))
          → AreHeld above depth i → AreHeld above (suc depth) (suc i)
      over_more [] depth i bound less next h = tt
      over_more (n ∷ rest) depth i bound less next h = (
        record { is_node = h.0.is_node; holds = next n depth (less n (inl refl)) h.0.holds },
        over_more rest (suc depth) i bound (λ k a. less k (inr a)) next h.1,
      )

      over_less : (above : List V) (depth i : ℕ) → ((n : V) (d : ℕ) → Holds (suc d) n i → Holds d n (suc i)) → AreHeld above (suc depth) i → AreHeld above depth (suc i)
      over_less [] depth i next h = tt
      over_less (n ∷ rest) depth i next h = (record { is_node = h.0.is_node; holds = next n (suc depth) h.0.holds }, over_less rest (suc depth) i next h.1)

      pub walk_start : (node : V) → IsOther plant → place node ≡ 0 → Holds 0 node 0 → IsWalk node [] 0
      walk_start node bare p h = record {
        stack = open_at_other (plant ∷ word) 0 bare;
        here = record { is_node = inl p; holds = h };
        over = tt;
        order = p;
        before = omega (arith, p);
        level = let a = seen_none OPEN word in let b = seen_none CLOSE word in omega (arith, a, b);
      }

      pub walk_other : (node next : V) (above : List V) (i : ℕ) → IsOther (slice_index word i) → place next ≡ place node → Holds 0 next (suc i) → ((n : V) (d : ℕ) → place n < place node → Holds (suc d) n i → Holds (suc d) n (suc i))
          → IsWalk node above i → IsWalk next above (suc i)
      walk_other node next above i o e h others w = record {
        stack = open_at_other (plant ∷ word) (suc i) o ∙ w.stack ∙ places_same node next above e;
        here = record { is_node = is_node_at (plant ∷ word) (place next) (place node) e w.here.is_node; holds = h };
        over = over_same above 0 i (place node) (λ n a. above_less node above (place n) w.order a) others w.over;
        order = order_same node next above e w.order;
        before = let x = w.before in omega (arith, x, e);
        level = let x = w.level in let a = seen_no CLOSE word i o.not_close in let b = seen_no OPEN word i o.not_open in omega (arith, a, b, x);
      }

      pub walk_open : (node next child : V) (above : List V) (i : ℕ) → slice_index word i ≡ OPEN → place next ≡ place node → place child ≡ suc i → Holds 1 next (suc i) → Holds 0 child (suc i)
          → ((n : V) (d : ℕ) → place n < place node → Holds (suc d) n i → Holds (suc (suc d)) n (suc i)) → IsWalk node above i → IsWalk child (next ∷ above) (suc i)
      walk_open node next child above i o e p h g others w = record {
        stack = open_at_open (plant ∷ word) (suc i) o ∙ ap (λ (xs : List ℕ). suc i ∷ xs) (w.stack ∙ places_same node next above e) ∙ ap (λ (q : ℕ). q ∷ open_places next above) (sym p);
        here = record { is_node = is_node_at (plant ∷ word) (place child) (suc i) p (inr o); holds = g };
        over = (
          record { is_node = is_node_at (plant ∷ word) (place next) (place node) e w.here.is_node; holds = h },
          over_more above 0 i (place node) (λ n a. above_less node above (place n) w.order a) others w.over,
        );
        order = (let l = w.before in omega (arith, l, p, e), order_same node next above e w.order);
        before = omega (arith, p);
        level = let x = w.level in let a = seen_no CLOSE word i (λ f. omega arith) in let b = seen_yes OPEN word i (omega arith) o in omega (arith, a, b, x);
      }

      pub walk_close : (node parent : V) (above : List V) (i : ℕ) → slice_index word i ≡ CLOSE → ((n : V) (d : ℕ) → Holds (suc d) n i → Holds d n (suc i)) → IsWalk node (parent ∷ above) i → IsWalk parent above (suc i)
      walk_close node parent above i c others w = record {
        stack = open_at_close (plant ∷ word) (suc i) c ∙ ap (λ (xs : List ℕ). drop 1 xs) w.stack;
        here = record { is_node = w.over.0.is_node; holds = others parent 0 w.over.0.holds };
        over = over_less above 0 i others w.over.1;
        order = w.order.1;
        before = let l = w.order.0 in let m = w.before in omega (arith, l, m);
        level = let x = w.level in let a = seen_yes CLOSE word i (omega arith) c in let b = seen_no OPEN word i (λ e. omega arith) in omega (arith, a, b, x);
      }

      -- the node that is closed isn't open behind the letter
      pub walk_gone : (node parent : V) (above : List V) (i : ℕ) → slice_index word i ≡ CLOSE → IsWalk node (parent ∷ above) i → IsGone (plant ∷ word) (place node) (suc (suc i))
      walk_gone node parent above i c w = record {
        not_open = λ k e.
            let s = ap (λ (xs : List ℕ). slice_index xs k) (open_at_close (plant ∷ word) (suc i) c ∙ ap (λ (xs : List ℕ). drop 1 xs) w.stack) in
            let h = places_up parent above k w.order.1 in
            let l = w.order.0 in
            omega (arith, s, h, l, e);
      }

      -- a `)` has a parent to go back to
      pub walk_parent : (node : V) (above : List V) (i : ℕ) → IsMatched word → slice_index word i ≡ CLOSE → IsWalk node above i → 0 < length above
      walk_parent node above i m c w = some_open word i (length above) m c w.level

      pub walk_end : (node : V) (above : List V) (i : ℕ) → i ≡ length word → IsMatched word → IsWalk node above i → above ≡ []
      walk_end node above i e m w =
          let P : ℕ → Type 0 = λ k. seen CLOSE word k + length above ≡ seen OPEN word k in
          nil_from_length above (none_open word (length above) m (subst P e w.level))

-- the list of the open nodes in the order in which they came
module _ {A : Type 0} where
  pub reverse_push : (xs : List A) (x : A) → reverse (xs ++ x ∷ []) ≡ x ∷ reverse xs
  reverse_push xs x = reverse-append xs (x ∷ [])

  pub reverse_pop : (xs ys : List A) (r : Option A) (x : A) → xs ≡ ys ++ option_to_list r → r ≡ Some x → reverse xs ≡ x ∷ reverse ys
  reverse_pop xs ys r x e s = ap reverse (e ∙ ap (λ (t : Option A). ys ++ option_to_list t) s) ∙ reverse_push ys x
