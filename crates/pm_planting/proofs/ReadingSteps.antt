-- The steps of reading a tree: letters from the last one on, and the entries of a node.
use Rattle.std.proofs.Common.{◌≡◌, ℕ, zero, suc, ◌<◌, inl, inr, List, [], ◌∷◌, ◌++◌, length, All, drop, reverse, refl, ap, sym, ◌∙◌, subst, arith, append_assoc, drop-cons, ne_eqb, eq-eqb, IsTrue}
use Rattle.std.specs.Prelude.{slice_index}
use Rattle.std.proofs.lemmas.Bool.{cases_eq}
use Rattle.std.proofs.lemmas.List.Elements.{All-head, All-tail}
use Rattle.std.proofs.lemmas.List.{reverse-append, append-nil, drop_all}
use Rattle.pm_trees.specs.declared.letters.TheConstants.{LEAF, BUD}
use Rattle.pm_brackets.specs.declared.letters.TheConstants.{OPEN, CLOSE}
use Rattle.pm_trees.specs.declared.patterns.TheConstants.{SLOT}
use Rattle.pm_trees.specs.Blossoming.{IsBlossoming}
use Rattle.pm_trees.specs.Word.{is_letter}
use Rattle.pm_trees.proofs.FourLetters.{letter_cases, a_leaf as is_leaf, a_bud as is_bud, an_open as is_open, a_close as is_close}
use Rattle.pm_planting.specs.steps.Folded.{prefix_of, behind, folded, AreKindsAlong}
use Rattle.pm_planting.specs.steps.Folded.AreKindsAlong.{ended, a_leaf, a_node, no_object}
use Rattle.pm_planting.specs.Kinds.{HasKind, IsKind, IsWordOfKinds}
use Rattle.pm_planting.specs.declared.kind.Kind.{Kind}
use Rattle.pm_planting.specs.declared.kind.Kind.TheVariants.{Leaf}
use Rattle.pm_planting.proofs.KindPatterns.{one_kind}
use Rattle.pm_planting.proofs.FoldedKinds.{IsReadRoot, read_root, folded_open, folded_close, folded_bud, folded_leaf}
use Rattle.pm_planting.proofs.WordKinds.{kinds_exist, kinds_each}

reverse-push : {X : Type 0} (xs : List X) (x : X) → reverse (xs ++ x ∷ []) ≡ x ∷ reverse xs
reverse-push xs x = reverse-append xs (x ∷ [])

-- so many entries are taken
pub record IsTaking (before entries prefix : List ℕ) : Type 0 where
  pub prefixes : prefix ++ prefix_of (reverse entries) ≡ prefix_of (reverse before)
  pub rests : behind (reverse entries) ≡ behind (reverse before)

pub taking_none : (before prefix : List ℕ) → prefix ≡ [] → IsTaking before before prefix
taking_none before prefix e = record { prefixes = ap (λ (xs : List ℕ). xs ++ prefix_of (reverse before)) e; rests = refl }

pub taking_more : (before entries rest prefix more : List ℕ) (entry : ℕ) → IsTaking before entries prefix → entries ≡ rest ++ entry ∷ [] → (entry ≡ CLOSE → ⊥) → more ≡ prefix ++ entry ∷ [] → IsTaking before rest more
taking_more before entries rest prefix more entry t e n m =
    let last : reverse entries ≡ entry ∷ reverse rest = ap reverse e ∙ reverse-push rest entry in
    let f : prefix_of (entry ∷ reverse rest) ≡ entry ∷ prefix_of (reverse rest) = rw (ne_eqb entry CLOSE n) refl in
    let b : behind (entry ∷ reverse rest) ≡ behind (reverse rest) = rw (ne_eqb entry CLOSE n) refl in
    record {
      prefixes = ap (λ (xs : List ℕ). xs ++ prefix_of (reverse rest)) m ∙ append_assoc prefix (entry ∷ []) (prefix_of (reverse rest)) ∙ ap (λ (xs : List ℕ). prefix ++ xs) (sym f ∙ ap prefix_of (sym last)) ∙ t.prefixes;
      rests = sym b ∙ ap behind (sym last) ∙ t.rests;
    }

-- all of a node's entries
pub record AreTaken (before rest prefix : List ℕ) : Type 0 where
  pub prefix_is : prefix ≡ prefix_of (reverse before)
  pub rest_is : reverse rest ≡ behind (reverse before)

pub taken_close : (before entries rest prefix : List ℕ) (entry : ℕ) → IsTaking before entries prefix → entries ≡ rest ++ entry ∷ [] → entry ≡ CLOSE → AreTaken before rest prefix
taken_close before entries rest prefix entry t e c =
    let last : reverse entries ≡ entry ∷ reverse rest = ap reverse e ∙ reverse-push rest entry in
    let f : prefix_of (entry ∷ reverse rest) ≡ [] = rw (eq-eqb entry CLOSE c) refl in
    let b : behind (entry ∷ reverse rest) ≡ reverse rest = rw (eq-eqb entry CLOSE c) refl in
    record {
      prefix_is = sym (append-nil prefix) ∙ ap (λ (xs : List ℕ). prefix ++ xs) (sym f ∙ ap prefix_of (sym last)) ∙ t.prefixes;
      rest_is = sym b ∙ ap behind (sym last) ∙ t.rests;
    }

pub taken_all : (before entries prefix : List ℕ) → IsTaking before entries prefix → entries ≡ [] → AreTaken before entries prefix
taken_all before entries prefix t e =
    record {
      prefix_is = sym (append-nil prefix) ∙ ap (λ (xs : List ℕ). prefix ++ prefix_of (reverse xs)) (sym e) ∙ t.prefixes;
      rest_is = ap reverse e ∙ ap (λ (xs : List ℕ). behind (reverse xs)) (sym e) ∙ t.rests;
    }

-- the letters from a place on are read
pub record IsReadFrom (letters : List ℕ) (place : ℕ) (entries : List ℕ) (kinds : List Kind) : Type 0 where
  pub folds : reverse entries ≡ folded (drop place letters)
  pub along : AreKindsAlong (drop place letters) (reverse kinds)

pub read_none : (letters : List ℕ) (place : ℕ) (entries : List ℕ) (kinds : List Kind) → place ≡ length letters → entries ≡ [] → kinds ≡ [] → IsReadFrom letters place entries kinds
read_none letters place entries kinds end e k =
    let none : drop place letters ≡ [] = drop_all place letters (omega (arith, end)) in
    record {
      folds = ap reverse e ∙ ap folded (sym none);
      along = subst (λ (xs : List ℕ). AreKindsAlong xs (reverse kinds)) (sym none) (subst (λ (ks : List Kind). AreKindsAlong [] (reverse ks)) (sym k) ended);
    }

-- one letter more
module _ (letters : List ℕ) (place letter : ℕ) (entries more : List ℕ) (kinds others : List Kind) (less : place < length letters) (here : slice_index letters place ≡ letter) (r : IsReadFrom letters (suc place) entries kinds) where
  letters_here : drop place letters ≡ letter ∷ drop (suc place) letters
  letters_here = drop-cons letters place 0 less ∙ ap (λ (x : ℕ). x ∷ drop (suc place) letters) here

  pub read_open : (kind : Kind) (rest : List ℕ) → letter ≡ OPEN → HasKind kind (prefix_of (reverse entries)) → reverse rest ≡ behind (reverse entries) → more ≡ rest ++ SLOT ∷ []
      → others ≡ kinds ++ kind ∷ [] → IsReadFrom letters place more others
  read_open kind rest opens has e m k =
      record {
        folds = ap reverse m ∙ reverse-push rest SLOT ∙ ap (λ (xs : List ℕ). SLOT ∷ xs) (e ∙ ap behind r.folds) ∙ sym (ap folded letters_here ∙ folded_open letter (folded (drop (suc place) letters)) opens);
        along = subst (λ (xs : List ℕ). AreKindsAlong xs (reverse others)) (sym letters_here)
            (subst (AreKindsAlong (letter ∷ drop (suc place) letters)) (sym (ap reverse k ∙ reverse-push kinds kind))
            (a_node letter kind (drop (suc place) letters) (reverse kinds) opens (subst (λ (xs : List ℕ). HasKind kind (prefix_of xs)) r.folds has) r.along));
      }

  pub read_leaf : letter ≡ LEAF → more ≡ entries ++ SLOT ∷ [] → others ≡ kinds ++ Leaf ∷ [] → IsReadFrom letters place more others
  read_leaf leaf m k =
      record {
        folds = ap reverse m ∙ reverse-push entries SLOT ∙ ap (λ (xs : List ℕ). SLOT ∷ xs) r.folds
            ∙ sym (ap folded letters_here ∙ folded_leaf letter (folded (drop (suc place) letters)) (λ e. omega (arith, e, leaf)) (λ e. omega (arith, e, leaf)) (λ e. omega (arith, e, leaf)));
        along = subst (λ (xs : List ℕ). AreKindsAlong xs (reverse others)) (sym letters_here)
            (subst (AreKindsAlong (letter ∷ drop (suc place) letters)) (sym (ap reverse k ∙ reverse-push kinds Leaf)) (a_leaf letter (drop (suc place) letters) (reverse kinds) leaf r.along));
      }

  pub read_other : IsBlossoming letters → (letter ≡ OPEN → ⊥) → (letter ≡ LEAF → ⊥) → more ≡ entries ++ letter ∷ [] → others ≡ kinds → IsReadFrom letters place more others
  read_other tree no_open no_leaf m k =
      record {
        folds = ap reverse m ∙ reverse-push entries letter ∙ ap (λ (xs : List ℕ). letter ∷ xs) r.folds
            ∙ sym (ap folded letters_here ∙ elim (cases_eq letter CLOSE) [
              | inl close ↦ folded_close letter (folded (drop (suc place) letters)) close ∙ ap (λ (x : ℕ). x ∷ folded (drop (suc place) letters)) (sym close)
              | inr apart ↦ folded_bud letter (folded (drop (suc place) letters)) (bud apart) ∙ ap (λ (x : ℕ). x ∷ folded (drop (suc place) letters)) (sym (bud apart))
            ]);
        along = subst (λ (xs : List ℕ). AreKindsAlong xs (reverse others)) (sym letters_here)
            (subst (AreKindsAlong (letter ∷ drop (suc place) letters)) (sym (ap reverse k)) (no_object letter (drop (suc place) letters) (reverse kinds) no_leaf no_open r.along));
      } where
        bud : (letter ≡ CLOSE → ⊥) → letter ≡ BUD
        bud no_close = elim (letter_cases letter (subst (λ (x : ℕ). IsTrue (is_letter x)) here (tree.in_order.letters place 0 less))) [
          | is_leaf e ↦ absurd (no_leaf e)
          | is_bud e ↦ e
          | is_open e ↦ absurd (no_open e)
          | is_close e ↦ absurd (no_close e)
        ]

-- a text has its objects' kinds once
along_once : (xs : List ℕ) (kinds others : List Kind) → AreKindsAlong xs kinds → AreKindsAlong xs others → kinds ≡ others
along_once _ _ _ ended ended = refl
along_once _ _ _ (a_leaf x xs kinds e h) (a_leaf _ _ others f k) = ap (λ (ks : List Kind). Leaf ∷ ks) (along_once xs kinds others h k)
along_once _ _ _ (a_leaf x xs kinds e h) (a_node _ kind _ others f p k) = absurd (omega (arith, e, f))
along_once _ _ _ (a_leaf x xs kinds e h) (no_object _ _ others f g k) = absurd (f e)
along_once _ _ _ (a_node x kind xs kinds e p h) (a_leaf _ _ others f k) = absurd (omega (arith, e, f))
along_once _ _ _ (a_node x kind xs kinds e p h) (a_node _ other _ others f q k) =
    let l = along_once xs kinds others h k in
    let s = one_kind kind other (prefix_of (folded xs)) p q in
    cc
along_once _ _ _ (a_node x kind xs kinds e p h) (no_object _ _ others f g k) = absurd (g e)
along_once _ _ _ (no_object x xs kinds e f h) (a_leaf _ _ others g k) = absurd (e g)
along_once _ _ _ (no_object x xs kinds e f h) (a_node _ kind _ others g p k) = absurd (f g)
along_once _ _ _ (no_object x xs kinds e f h) (no_object _ _ others g i k) = along_once xs kinds others h k

-- the entries of each node are a pattern of some kind
abbrev pub IsNodePattern : List ℕ → Type 0
IsNodePattern pattern = (kind : Kind) × IsKind kind × HasKind kind pattern

along_pattern : (xs : List ℕ) (kinds : List Kind) (place : ℕ) → AreKindsAlong xs kinds → All IsKind kinds → place < length xs → slice_index xs place ≡ OPEN → IsNodePattern (prefix_of (folded (drop (suc place) xs)))
along_pattern _ _ place ended each less opens = absurd (omega (arith, less))
along_pattern _ _ zero (a_leaf x xs kinds e h) each less opens = absurd (omega (arith, e, opens))
along_pattern _ _ (suc place) (a_leaf x xs kinds e h) each less opens = along_pattern xs kinds place h (All-tail IsKind Leaf kinds each) (omega (arith, less)) opens
along_pattern _ _ zero (a_node x kind xs kinds e p h) each less opens = (kind, All-head IsKind kind kinds each, p)
along_pattern _ _ (suc place) (a_node x kind xs kinds e p h) each less opens = along_pattern xs kinds place h (All-tail IsKind kind kinds each) (omega (arith, less)) opens
along_pattern _ _ zero (no_object x xs kinds e f h) each less opens = absurd (f opens)
along_pattern _ _ (suc place) (no_object x xs kinds e f h) each less opens = along_pattern xs kinds place h each (omega (arith, less)) opens

-- what is known of a tree's root and of its letters
record IsReadTree (letters : List ℕ) : Type 0 where
  kinds : List Kind
  planted : IsWordOfKinds kinds letters
  root : IsReadRoot kinds letters
  each : All IsKind (root.kind ∷ root.below)

read_tree : (letters : List ℕ) → IsBlossoming letters → IsReadTree letters
read_tree letters tree =
    let found = kinds_exist letters tree in
    let root = read_root found.0 letters found.1 in
    record { kinds = found.0; planted = found.1; root = root; each = subst (All IsKind) root.kinds_are (kinds_each found.0 letters tree found.1) }

pub pattern_within : (letters : List ℕ) (place : ℕ) (entries : List ℕ) (kinds : List Kind) → IsBlossoming letters → IsReadFrom letters (suc place) entries kinds → place < length letters → slice_index letters place ≡ OPEN
    → IsNodePattern (prefix_of (reverse entries))
pattern_within letters place entries kinds tree r less opens =
    let t = read_tree letters tree in
    subst (λ (xs : List ℕ). IsNodePattern (prefix_of xs)) (sym r.folds) (along_pattern letters t.root.below place t.root.along (All-tail IsKind t.root.kind t.root.below t.each) less opens)

pub pattern_at_root : (letters entries : List ℕ) (kinds : List Kind) → IsBlossoming letters → IsReadFrom letters 0 entries kinds → IsNodePattern (prefix_of (reverse entries))
pattern_at_root letters entries kinds tree r =
    let t = read_tree letters tree in
    subst (λ (xs : List ℕ). IsNodePattern (prefix_of xs)) (sym r.folds) (t.root.kind, All-head IsKind t.root.kind t.root.below t.each, t.root.has_kind)

-- all letters and then the root node
pub read_whole : (letters entries : List ℕ) (kinds all : List Kind) (kind : Kind) → IsBlossoming letters → IsReadFrom letters 0 entries kinds → HasKind kind (prefix_of (reverse entries)) → all ≡ kinds ++ kind ∷ [] → IsWordOfKinds (reverse all) letters
read_whole letters entries kinds all kind tree r has e =
    let t = read_tree letters tree in
    let below = along_once letters t.root.below (reverse kinds) t.root.along r.along in
    let root = one_kind t.root.kind kind (prefix_of (folded letters)) t.root.has_kind (subst (λ (xs : List ℕ). HasKind kind (prefix_of xs)) r.folds has) in
    let whole : t.root.kind ∷ t.root.below ≡ kind ∷ reverse kinds = cc in
    subst (λ (ks : List Kind). IsWordOfKinds ks letters) (t.root.kinds_are ∙ whole ∙ sym (ap reverse e ∙ reverse-push kinds kind)) t.planted
