-- The word of a tree read from its end on tells the kinds of its objects.
use Rattle.std.proofs.Common.{◌≡◌, ◌⊎◌, ℕ, ◌+◌, ◌==◌, inl, inr, List, [], ◌∷◌, ◌++◌, length, All, refl, ap, ap₂, sym, ◌∙◌, subst, arith, append_assoc, append-nil, eq-eqb, ne_eqb}
use Rattle.std.proofs.lemmas.List.Elements.{All-head, All-tail}
use Rattle.std.proofs.lemmas.List.Sums.{count_by-le-length}
use Rattle.pm_trees.specs.declared.letters.TheConstants.{LEAF, BUD}
use Rattle.pm_brackets.specs.declared.letters.TheConstants.{OPEN, CLOSE}
use Rattle.pm_trees.specs.declared.patterns.TheConstants.{SLOT}
use Rattle.pm_trees.specs.BudPattern.{IsPattern}
use Rattle.pm_brackets.proofs.Tally.{tally, tally_is, tally_yes, tally_no}
use Rattle.pm_planting.specs.steps.Folded.{prefix_of, behind, fold_letter, folded, AreKindsAlong}
use Rattle.pm_planting.specs.steps.Folded.AreKindsAlong.{ended, a_leaf, a_node, no_object}
use Rattle.pm_planting.specs.Kinds.{AreSides, HasKind, IsWordOfKinds, half_of}
use Rattle.pm_planting.specs.Kinds.AreSides.{none, leaf, node}
use Rattle.pm_planting.specs.Kinds.{filled}
use Rattle.pm_planting.proofs.FilledRows.{filled_bud, filled_slot}
use Rattle.pm_planting.specs.declared.kind.Kind.{Kind}
use Rattle.pm_planting.specs.declared.kind.Kind.TheVariants.{Leaf}
use Rattle.pm_planting.proofs.KindPatterns.{kind_pattern}
use Rattle.pm_planting.proofs.RootNodes.{root_node}

pub folded_open : (x : ℕ) (entries : List ℕ) → x ≡ OPEN → fold_letter x entries ≡ SLOT ∷ behind entries
folded_open x entries e = rw (eq-eqb x OPEN e) refl

pub folded_close : (x : ℕ) (entries : List ℕ) → x ≡ CLOSE → fold_letter x entries ≡ CLOSE ∷ entries
folded_close x entries e = rw (ne_eqb x OPEN (λ o. omega (arith, e, o)), eq-eqb x CLOSE e) refl

pub folded_bud : (x : ℕ) (entries : List ℕ) → x ≡ BUD → fold_letter x entries ≡ BUD ∷ entries
folded_bud x entries e = rw (ne_eqb x OPEN (λ o. omega (arith, e, o)), ne_eqb x CLOSE (λ o. omega (arith, e, o)), eq-eqb x BUD e) refl

pub folded_leaf : (x : ℕ) (entries : List ℕ) → (x ≡ OPEN → ⊥) → (x ≡ CLOSE → ⊥) → (x ≡ BUD → ⊥) → fold_letter x entries ≡ SLOT ∷ entries
folded_leaf x entries o c b = rw (ne_eqb x OPEN o, ne_eqb x CLOSE c, ne_eqb x BUD b) refl

-- a pattern before a closing bracket
pub prefix_here : (pattern rest : List ℕ) → All (λ x. (x ≡ BUD) ⊎ (x ≡ SLOT)) pattern → (prefix_of (pattern ++ CLOSE ∷ rest) ≡ pattern) × (behind (pattern ++ CLOSE ∷ rest) ≡ rest)
prefix_here [] rest all = (refl, refl)
prefix_here (x ∷ pattern) rest all =
    let h = prefix_here pattern rest (All-tail (λ x. (x ≡ BUD) ⊎ (x ≡ SLOT)) x pattern all) in
    let n : x ≡ CLOSE → ⊥ = λ e. elim (All-head (λ x. (x ≡ BUD) ⊎ (x ≡ SLOT)) x pattern all) [ inl b ↦ omega (arith, e, b) | inr s ↦ omega (arith, e, s) ] in
    let f : prefix_of ((x ∷ pattern) ++ CLOSE ∷ rest) ≡ x ∷ prefix_of (pattern ++ CLOSE ∷ rest) = rw (ne_eqb x CLOSE n) refl in
    let b : behind ((x ∷ pattern) ++ CLOSE ∷ rest) ≡ behind (pattern ++ CLOSE ∷ rest) = rw (ne_eqb x CLOSE n) refl in
    (f ∙ ap (λ (xs : List ℕ). x ∷ xs) h.0, b ∙ h.1)

pub prefix_whole : (pattern : List ℕ) → All (λ x. (x ≡ BUD) ⊎ (x ≡ SLOT)) pattern → prefix_of pattern ≡ pattern
prefix_whole [] all = refl
prefix_whole (x ∷ pattern) all =
    let h = prefix_whole pattern (All-tail (λ x. (x ≡ BUD) ⊎ (x ≡ SLOT)) x pattern all) in
    let n : x ≡ CLOSE → ⊥ = λ e. elim (All-head (λ x. (x ≡ BUD) ⊎ (x ≡ SLOT)) x pattern all) [ inl b ↦ omega (arith, e, b) | inr s ↦ omega (arith, e, s) ] in
    let f : prefix_of (x ∷ pattern) ≡ x ∷ prefix_of pattern = rw (ne_eqb x CLOSE n) refl in
    f ∙ ap (λ (xs : List ℕ). x ∷ xs) h

-- before any text, this one is so many entries more, and has objects of these kinds
record IsRead (text entries : List ℕ) (kinds : List Kind) : Type 0 where
  folds : (rest : List ℕ) → folded (text ++ rest) ≡ entries ++ folded rest
  along : (rest : List ℕ) (others : List Kind) → AreKindsAlong rest others → AreKindsAlong (text ++ rest) (kinds ++ others)

read_leaf : IsRead (LEAF ∷ []) (SLOT ∷ []) (Leaf ∷ [])
read_leaf = record {
  folds = λ rest. folded_leaf LEAF (folded rest) (λ e. omega (arith, e)) (λ e. omega (arith, e)) (λ e. omega (arith, e));
  along = λ rest others h. a_leaf LEAF rest others refl h;
}

read_node : (kind : Kind) (text pattern : List ℕ) (kinds : List Kind) → HasKind kind pattern → IsRead text pattern kinds → IsRead (OPEN ∷ text ++ CLOSE ∷ []) (SLOT ∷ []) (kind ∷ kinds)
read_node kind text pattern kinds p r = record {
  folds = λ rest. folded_open OPEN (folded ((text ++ CLOSE ∷ []) ++ rest)) refl ∙ ap (λ (xs : List ℕ). SLOT ∷ xs) (ap behind (inside rest) ∙ (prefix_here pattern (folded rest) (kind_pattern kind pattern p).letters).1);
  along = λ rest others h.
      a_node OPEN kind ((text ++ CLOSE ∷ []) ++ rest) (kinds ++ others) refl
      (subst (HasKind kind) (sym (ap prefix_of (inside rest) ∙ (prefix_here pattern (folded rest) (kind_pattern kind pattern p).letters).0)) p)
      (subst (λ (xs : List ℕ). AreKindsAlong xs (kinds ++ others)) (sym (append_assoc text (CLOSE ∷ []) rest))
      (r.along (CLOSE ∷ rest) others (no_object CLOSE rest others (λ e. omega (arith, e)) (λ e. omega (arith, e)) h)));
} where
  inside : (rest : List ℕ) → folded ((text ++ CLOSE ∷ []) ++ rest) ≡ pattern ++ CLOSE ∷ folded rest
  inside rest = ap folded (append_assoc text (CLOSE ∷ []) rest) ∙ r.folds (CLOSE ∷ rest) ∙ ap (λ (xs : List ℕ). pattern ++ xs) (folded_close CLOSE (folded rest) refl)

-- texts side by side, each one slot
data AreReadSides : List (List ℕ) → List Kind → Type 0 where
  no_sides : AreReadSides [] []
  one_side : (text : List ℕ) (texts : List (List ℕ)) (kinds others : List Kind) → IsRead text (SLOT ∷ []) kinds → AreReadSides texts others → AreReadSides (text ∷ texts) (kinds ++ others)

read_slot : (x : ℕ) (pattern : List ℕ) (texts : List (List ℕ)) (kinds : List Kind) → x ≡ SLOT → length texts + tally BUD (x ∷ pattern) ≡ length (x ∷ pattern) → AreReadSides texts kinds
    → ((later : List (List ℕ)) (others : List Kind) → length later + tally BUD pattern ≡ length pattern → AreReadSides later others → IsRead (filled pattern later) pattern others) → IsRead (filled (x ∷ pattern) texts) (x ∷ pattern) kinds
read_slot x pattern _ _ slot many no_sides rest =
    absurd (
    let t = tally_no BUD x pattern (λ e. omega (arith, e, slot)) in
    let a = tally_is BUD pattern in
    let few = count_by-le-length (λ y. y == BUD) pattern in
    omega (arith, t, a, few, many)
    )
read_slot x pattern _ _ slot many (one_side text texts kinds others h k) rest =
    let t = tally_no BUD x pattern (λ e. omega (arith, e, slot)) in
    let r = rest texts others (omega (arith, t, many)) k in
    let letters = filled_slot x pattern text texts (λ e. omega (arith, e, slot)) in
    record {
      folds = λ more. ap (λ (xs : List ℕ). folded (xs ++ more)) letters ∙ ap folded (append_assoc text (filled pattern texts) more) ∙ h.folds (filled pattern texts ++ more)
          ∙ ap (λ (xs : List ℕ). SLOT ∷ xs) (r.folds more) ∙ ap (λ (y : ℕ). y ∷ (pattern ++ folded more)) (sym slot);
      along = λ more ks a.
          subst (λ (xs : List ℕ). AreKindsAlong (xs ++ more) ((kinds ++ others) ++ ks)) (sym letters)
          (subst (λ (xs : List ℕ). AreKindsAlong xs ((kinds ++ others) ++ ks)) (sym (append_assoc text (filled pattern texts) more))
          (subst (AreKindsAlong (text ++ (filled pattern texts ++ more))) (sym (append_assoc kinds others ks)) (h.along (filled pattern texts ++ more) (others ++ ks) (r.along more ks a))));
    }

read_filled : (pattern : List ℕ) (texts : List (List ℕ)) (kinds : List Kind) → All (λ x. (x ≡ BUD) ⊎ (x ≡ SLOT)) pattern → length texts + tally BUD pattern ≡ length pattern → AreReadSides texts kinds → IsRead (filled pattern texts) pattern kinds
read_filled [] _ _ all many no_sides = record { folds = λ rest. refl; along = λ rest others h. h }
read_filled [] _ _ all many (one_side text texts kinds others h k) = absurd (omega (arith, many))
read_filled (x ∷ pattern) texts kinds all many sides = elim (All-head (λ x. (x ≡ BUD) ⊎ (x ≡ SLOT)) x pattern all) [
  | inl bud ↦
      let t = tally_yes BUD x pattern bud in
      let r = read_filled pattern texts kinds (All-tail (λ x. (x ≡ BUD) ⊎ (x ≡ SLOT)) x pattern all) (omega (arith, t, many)) sides in
      let letters = filled_bud x pattern texts bud in
      record {
        folds = λ more. ap (λ (xs : List ℕ). folded (xs ++ more)) letters ∙ folded_bud BUD (folded (filled pattern texts ++ more)) refl ∙ ap₂ (λ (y : ℕ) (xs : List ℕ). y ∷ xs) (sym bud) (r.folds more);
        along = λ more ks a.
            subst (λ (xs : List ℕ). AreKindsAlong (xs ++ more) (kinds ++ ks)) (sym letters)
            (no_object BUD (filled pattern texts ++ more) (kinds ++ ks) (λ e. omega (arith, e)) (λ e. omega (arith, e)) (r.along more ks a));
      }
  | inr slot ↦ read_slot x pattern texts kinds slot many sides (λ later others n k. read_filled pattern later others (All-tail (λ x. (x ≡ BUD) ⊎ (x ≡ SLOT)) x pattern all) n k)
]

read_inside : (half : ℕ) (kinds : List Kind) (pattern : List ℕ) (sides : List (List ℕ)) → IsPattern half pattern → length sides ≡ half → AreReadSides sides kinds → IsRead (filled pattern sides) pattern kinds
read_inside half kinds pattern sides p l k =
    read_filled pattern sides kinds p.letters (let t = tally_is BUD pattern in let a = p.as_long in let b = p.budded in omega (arith, t, a, b, l)) k

read_sides : (kinds : List Kind) (texts : List (List ℕ)) → AreSides kinds texts → AreReadSides texts kinds
read_sides _ _ none = no_sides
read_sides _ _ (leaf later texts h) = one_side (LEAF ∷ []) texts (Leaf ∷ []) later read_leaf (read_sides later texts h)
read_sides _ _ (node kind under later pattern sides texts p h l k) =
    one_side (OPEN ∷ filled pattern sides ++ CLOSE ∷ []) texts (kind ∷ under) later
    (read_node kind (filled pattern sides) pattern under p (read_inside (half_of kind) under pattern sides (kind_pattern kind pattern p) l (read_sides under sides h))) (read_sides later texts k)

-- the root node of a tree, and the kinds of the other objects
pub record IsReadRoot (kinds : List Kind) (word : List ℕ) : Type 0 where
  pub kind : Kind
  pub below : List Kind
  pub kinds_are : kinds ≡ kind ∷ below
  pub has_kind : HasKind kind (prefix_of (folded word))
  pub along : AreKindsAlong word below

pub read_root : (kinds : List Kind) (word : List ℕ) → IsWordOfKinds kinds word → IsReadRoot kinds word
read_root kinds word h =
    let n = root_node kinds word h in
    let p = kind_pattern n.kind n.pattern n.has_kind in
    let r = read_inside (half_of n.kind) n.below n.pattern n.sides p n.counted (read_sides n.below n.sides n.are_sides) in
    let letters : filled n.pattern n.sides ++ [] ≡ word = append-nil (filled n.pattern n.sides) ∙ n.word_is in
    let entries : folded word ≡ n.pattern = ap folded (sym letters) ∙ r.folds [] ∙ append-nil n.pattern in
    record {
      kind = n.kind;
      below = n.below;
      kinds_are = n.kinds_are;
      has_kind = subst (HasKind n.kind) (sym (ap prefix_of entries ∙ prefix_whole n.pattern p.letters)) n.has_kind;
      along = subst (AreKindsAlong word) (append-nil n.below) (subst (λ (xs : List ℕ). AreKindsAlong xs (n.below ++ [])) letters (r.along [] [] ended));
    }
