-- Each blossoming tree is a plane tree with bud patterns: its word is that of objects of some kinds.
use Rattle.std.proofs.Common.{◌≡◌, ◌⊎◌, ℕ, suc, ◌+◌, ◌*◌, ◌<◌, inl, inr, List, [], ◌∷◌, ◌++◌, length, All, IsTrue, refl, ap, sym, ◌∙◌, subst, arith, append_assoc}
use Rattle.std.proofs.lemmas.List.Elements.{All-nil, All-cons, All-append, All-head, All-tail}
use Rattle.pm_trees.specs.declared.letters.TheConstants.{LEAF, BUD}
use Rattle.pm_brackets.specs.declared.letters.TheConstants.{OPEN, CLOSE}
use Rattle.pm_trees.specs.declared.patterns.TheConstants.{SLOT}
use Rattle.pm_trees.specs.Word.{is_letter}
use Rattle.pm_trees.specs.Node.{own_letters}
use Rattle.pm_trees.specs.Blossoming.{IsBlossoming}
use Rattle.pm_trees.specs.BudPattern.{IsPattern, HasRank}
use Rattle.pm_brackets.proofs.Dyck.{IsDyck, dyck_from_matched}
use Rattle.pm_brackets.proofs.Dyck.IsDyck.{empty, letter, bracket}
use Rattle.pm_brackets.specs.Word.{IsOther}
use Rattle.pm_trees.proofs.Own.{other_here}
use Rattle.pm_trees.proofs.Ranked.{patterns_ranked}
use Rattle.pm_trees.proofs.Rings.{bad, bad_is, none_bad, contour_weight}
use Rattle.pm_brackets.proofs.Tally.{tally, tally_is, tally-nil, tally_yes, tally_no}
use Rattle.pm_trees.proofs.FourLetters.{IsOneOf, letter_cases, a_leaf, a_bud, an_open, a_close}
use Rattle.pm_trees.proofs.Weights.{value, value_is, inner, inner_other, inner_of_bracket, own_bracket}
use Rattle.pm_planting.specs.Kinds.{AreSides, IsKind, IsWordOfKinds}
use Rattle.pm_planting.specs.Kinds.AreSides.{none, leaf, node}
use Rattle.pm_planting.specs.Kinds.{filled}
use Rattle.pm_planting.specs.declared.kind.Kind.{Kind}
use Rattle.pm_planting.specs.declared.kind.Kind.TheVariants.{Leaf, Node}
use Rattle.pm_planting.proofs.SideReading.{one_reading}
use Rattle.pm_planting.proofs.FilledRows.{filled_bud, filled_slot}

-- the letters between the brackets of a node, as a pattern with texts of trees in its slots
record HasEntries (word : List ℕ) : Type 0 where
  kinds : List Kind
  pattern : List ℕ
  sides : List (List ℕ)
  letters : All (λ x. (x ≡ BUD) ⊎ (x ≡ SLOT)) pattern
  as_many : length sides + tally BUD pattern ≡ length pattern
  are_sides : AreSides kinds sides
  each : All IsKind kinds
  word_is : filled pattern sides ≡ word
  entries : length pattern ≡ length (own_letters 0 word)
  buds : tally BUD pattern ≡ tally BUD (own_letters 0 word)

no_entries : HasEntries []
no_entries = record {
  kinds = [];
  pattern = [];
  sides = [];
  letters = All-nil (λ x. (x ≡ BUD) ⊎ (x ≡ SLOT));
  as_many = let t = tally-nil BUD in omega (arith, t);
  are_sides = none;
  each = All-nil IsKind;
  word_is = refl;
  entries = refl;
  buds = refl;
}

bud_entry : (x : ℕ) (word : List ℕ) → IsOther x → x ≡ BUD → HasEntries word → HasEntries (x ∷ word)
bud_entry x word o bud h =
    let t = tally_yes BUD BUD h.pattern refl in
    let u = tally_yes BUD x (own_letters 0 word) bud in
    let own = other_here x word o in
    let own_long = ap length own in
    let own_budded = ap (tally BUD) own in
    let m = h.as_many in
    let e = h.entries in
    let b = h.buds in
    record {
      kinds = h.kinds;
      pattern = BUD ∷ h.pattern;
      sides = h.sides;
      letters = All-cons (λ x. (x ≡ BUD) ⊎ (x ≡ SLOT)) BUD h.pattern (inl refl) h.letters;
      as_many = omega (arith, t, m);
      are_sides = h.are_sides;
      each = h.each;
      word_is = filled_bud BUD h.pattern h.sides refl ∙ ap (λ (w : List ℕ). BUD ∷ w) h.word_is ∙ ap (λ (y : ℕ). y ∷ word) (sym bud);
      entries = omega (arith, own_long, e);
      buds = omega (arith, t, u, own_budded, b);
    }

-- a slot with the text of a tree
slot_entry : (text word all : List ℕ) (prefix : List Kind) → HasEntries word → text ++ word ≡ all → All IsKind prefix
    → ((kinds : List Kind) (sides : List (List ℕ)) → AreSides kinds sides → AreSides (prefix ++ kinds) (text ∷ sides))
    → length (own_letters 0 all) ≡ suc (length (own_letters 0 word)) → tally BUD (own_letters 0 all) ≡ tally BUD (own_letters 0 word) → HasEntries all
slot_entry text word all prefix h same each side entries buds =
    let t = tally_no BUD SLOT h.pattern (λ e. omega (arith, e)) in
    let m = h.as_many in
    let e = h.entries in
    let b = h.buds in
    record {
      kinds = prefix ++ h.kinds;
      pattern = SLOT ∷ h.pattern;
      sides = text ∷ h.sides;
      letters = All-cons (λ x. (x ≡ BUD) ⊎ (x ≡ SLOT)) SLOT h.pattern (inr refl) h.letters;
      as_many = omega (arith, t, m);
      are_sides = side h.kinds h.sides h.are_sides;
      each = All-append IsKind prefix h.kinds each h.each;
      word_is = filled_slot SLOT h.pattern text h.sides (λ e. omega (arith, e)) ∙ ap (λ (w : List ℕ). text ++ w) h.word_is ∙ same;
      entries = omega (arith, entries, e);
      buds = omega (arith, t, buds, b);
    }

leaf_entry : (x : ℕ) (word : List ℕ) → IsOther x → x ≡ LEAF → HasEntries word → HasEntries (x ∷ word)
leaf_entry x word o here h =
    let own = other_here x word o in
    slot_entry (LEAF ∷ []) word (x ∷ word) (Leaf ∷ []) h (ap (λ (y : ℕ). y ∷ word) (sym here)) (All-cons IsKind Leaf [] tt (All-nil IsKind)) (λ kinds sides k. leaf kinds sides k) (ap length own)
    (ap (tally BUD) own ∙ tally_no BUD x (own_letters 0 word) (λ e. omega (arith, e, here)))

-- a node with its half degree and rank
record IsNodeOf (word : List ℕ) (prefix : List Kind) : Type 0 where
  each : All IsKind prefix
  more : (kinds : List Kind) (sides : List (List ℕ)) → AreSides kinds sides → AreSides (prefix ++ kinds) ((OPEN ∷ word ++ CLOSE ∷ []) ∷ sides)

node_of : (word : List ℕ) → HasEntries word → value bad 1 word ≡ 0 → (prefix : List Kind) × IsNodeOf word prefix
node_of word h none_here =
    let v = value_is bad 1 word in
    let b = bad_is (1 + length (own_letters 0 word)) (tally BUD (own_letters 0 word)) in
    let e = h.entries in
    let d = h.buds in
    let m = h.as_many in
    let half : ℕ = suc (tally BUD h.pattern) in
    let t = tally_is BUD h.pattern in
    let long : suc (length h.pattern) ≡ 2 * suc (tally BUD h.pattern) = omega (arith, v, b, e, d, none_here) in
    let is : IsPattern (suc (tally BUD h.pattern)) h.pattern = record { letters = h.letters; as_long = long; budded = omega (arith, t) } in
    let some : 0 < suc (tally BUD h.pattern) = omega arith in
    let ranked : (rank : ℕ) × HasRank (suc (tally BUD h.pattern)) h.pattern rank = (patterns_ranked (suc (tally BUD h.pattern)) some).has_rank h.pattern is in
    let many : length h.sides ≡ suc (tally BUD h.pattern) = omega (arith, long, m) in (
      Node half ranked.0 ∷ h.kinds,
      record {
        each = All-cons IsKind (Node half ranked.0) h.kinds
            (record { some = some; few = omega (arith, v, b, e, d, none_here) }, (patterns_ranked (suc (tally BUD h.pattern)) some).below h.pattern ranked.0 ranked.1) h.each;
        more = λ kinds sides k.
            subst (λ (w : List ℕ). AreSides (Node half ranked.0 ∷ h.kinds ++ kinds) ((OPEN ∷ w ++ CLOSE ∷ []) ∷ sides)) h.word_is
            (node (Node half ranked.0) h.kinds kinds h.pattern h.sides sides ranked.1 h.are_sides many k);
      },
    )

node_entry : (xs ys : List ℕ) (prefix : List Kind) → IsDyck xs → IsNodeOf xs prefix → HasEntries ys → HasEntries (OPEN ∷ (xs ++ CLOSE ∷ ys))
node_entry xs ys prefix a n h =
    let own = own_bracket xs ys a in
    slot_entry (OPEN ∷ xs ++ CLOSE ∷ []) ys (OPEN ∷ (xs ++ CLOSE ∷ ys)) prefix h (ap (λ (w : List ℕ). OPEN ∷ w) (append_assoc xs (CLOSE ∷ []) ys)) n.each (λ kinds sides k. n.more kinds sides k) (ap length own)
    (ap (tally BUD) own ∙ tally_no BUD OPEN (own_letters 0 ys) (λ e. omega (arith, e)))

-- letters before and behind a bracket
split : (xs ys : List ℕ) → All (λ x. IsTrue (is_letter x)) (xs ++ ys) → All (λ x. IsTrue (is_letter x)) xs × All (λ x. IsTrue (is_letter x)) ys
split [] ys all = (All-nil (λ x. IsTrue (is_letter x)), all)
split (x ∷ xs) ys all =
    let rest = split xs ys (All-tail (λ x. IsTrue (is_letter x)) x (xs ++ ys) all) in
    (All-cons (λ x. IsTrue (is_letter x)) x xs (All-head (λ x. IsTrue (is_letter x)) x (xs ++ ys) all) rest.0, rest.1)

has_entries : (word : List ℕ) → IsDyck word → All (λ x. IsTrue (is_letter x)) word → inner bad word ≡ 0 → HasEntries word
has_entries _ empty all z = no_entries
has_entries _ (letter x xs o a) all z =
    let rest = has_entries xs a (All-tail (λ x. IsTrue (is_letter x)) x xs all) (sym (inner_other bad x xs o.not_open) ∙ z) in
    one (letter_cases x (All-head (λ x. IsTrue (is_letter x)) x xs all)) rest where
      one : IsOneOf x → HasEntries xs → HasEntries (x ∷ xs)
      one (a_leaf e) h = leaf_entry x xs o e h
      one (a_bud e) h = bud_entry x xs o e h
      one (an_open e) h = absurd (o.not_open e)
      one (a_close e) h = absurd (o.not_close e)
has_entries _ (bracket xs ys a b) all z =
    let sums = inner_of_bracket bad xs ys a in
    let parts = split xs (CLOSE ∷ ys) (All-tail (λ x. IsTrue (is_letter x)) OPEN (xs ++ CLOSE ∷ ys) all) in
    let h = has_entries xs a parts.0 (omega (arith, sums, z)) in
    let k = has_entries ys b (All-tail (λ x. IsTrue (is_letter x)) CLOSE ys parts.1) (omega (arith, sums, z)) in
    let n = node_of xs h (omega (arith, sums, z)) in
    node_entry xs ys n.0 a n.1 k

-- the root node, and what is known of its kind and the others'
root_entries : (word : List ℕ) → IsBlossoming word → (kinds : List Kind) × IsNodeOf word kinds
root_entries word tree =
    let z = none_bad word tree in
    let w = contour_weight bad word in
    let h = has_entries word (dyck_from_matched word tree.in_order.matched) tree.in_order.letters (omega (arith, z, w)) in
    node_of word h (omega (arith, z, w))

-- the kinds of the tree's objects
pub kinds_exist : (word : List ℕ) → IsBlossoming word → (kinds : List Kind) × IsWordOfKinds kinds word
kinds_exist word tree = let n = root_entries word tree in (n.0 ++ [], n.1.more [] [] none)

-- each of them is one that an object can have
pub kinds_each : (kinds : List Kind) (word : List ℕ) → IsBlossoming word → IsWordOfKinds kinds word → All IsKind kinds
kinds_each kinds word tree h =
    let n = root_entries word tree in
    subst (All IsKind) (one_reading (n.0 ++ []) kinds word (n.1.more [] [] none) h) (All-append IsKind n.0 [] n.1.each (All-nil IsKind))
