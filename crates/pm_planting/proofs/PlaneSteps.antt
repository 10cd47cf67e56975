-- The writing of a tree's word: what lies ahead, and what it gives with the objects that are left.
use Rattle.std.proofs.Common.{◌≡◌, ℕ, suc, ◌+◌, ◌<◌, ◌≤◌, ◌==◌, if◌then◌else◌, List, [], ◌∷◌, ◌++◌, inl, inr, get_or, length, reverse, drop, All, refl, sym, ◌∙◌, ap, subst, arith, append_assoc, append-nil, drop-cons, length-drop, length-append, eq-eqb, ne_eqb}
use Rattle.std.proofs.lemmas.List.{reverse-append, reverse-reverse}
use Rattle.pm_trees.specs.declared.letters.TheConstants.{LEAF, BUD}
use Rattle.pm_brackets.specs.declared.letters.TheConstants.{OPEN, CLOSE}
use Rattle.pm_trees.specs.declared.patterns.TheConstants.{SLOT}
use Rattle.pm_trees.proofs.Ranked.{of_pattern}
use Rattle.pm_trees.proofs.Ranking.{IsTwo}
use Rattle.pm_brackets.proofs.Tally.{tally, tally-nil, tally_yes, tally_no, tally-append}
use Rattle.pm_words.specs.Word.{IsGood}
use Rattle.pm_planting.specs.Kinds.{AreSides, HasKind, IsKind, IsWordOfKinds, filled, half_of, letters_in}
use Rattle.pm_planting.specs.Kinds.AreSides.{none, leaf, node}
use Rattle.pm_planting.specs.declared.kind.Kind.{Kind}
use Rattle.pm_planting.specs.declared.kind.Kind.TheVariants.{Leaf}
use Rattle.pm_planting.proofs.KindPatterns.{kind_pattern, no_leaf, one_pattern}
use Rattle.pm_planting.proofs.RootNodes.{root_node}
use Rattle.pm_planting.proofs.FilledRows.{filled_bud, filled_slot}
use Rattle.pm_planting.proofs.PlaneTrees.{word_exists}

-- the letters with the texts in place of the slots, one after another
abbrev placed : List ℕ → List (List ℕ) → List ℕ
placed [] texts = []
placed (x ∷ letters) [] = if x == SLOT then placed letters [] else x ∷ placed letters []
placed (x ∷ letters) (text ∷ texts) = if x == SLOT then text ++ placed letters texts else x ∷ placed letters (text ∷ texts)

placed_plain : (x : ℕ) (letters : List ℕ) (texts : List (List ℕ)) → (x ≡ SLOT → ⊥) → placed (x ∷ letters) texts ≡ x ∷ placed letters texts
placed_plain x letters [] n = rw (ne_eqb x SLOT n) refl
placed_plain x letters (text ∷ texts) n = rw (ne_eqb x SLOT n) refl

placed_slot : (x : ℕ) (letters text : List ℕ) (texts : List (List ℕ)) → x ≡ SLOT → placed (x ∷ letters) (text ∷ texts) ≡ text ++ placed letters texts
placed_slot x letters text texts e = rw (eq-eqb x SLOT e) refl

-- a pattern's entries have its sides in their slots
placed_bud : (x : ℕ) (pattern rest : List ℕ) (sides texts : List (List ℕ)) → x ≡ BUD → placed (pattern ++ rest) (sides ++ texts) ≡ filled pattern sides ++ placed rest texts
    → placed (x ∷ pattern ++ rest) (sides ++ texts) ≡ filled (x ∷ pattern) sides ++ placed rest texts
placed_bud x pattern rest sides texts bud same =
    placed_plain x (pattern ++ rest) (sides ++ texts) (λ e. omega arith)
    ∙ ap (λ (y : ℕ). y ∷ placed (pattern ++ rest) (sides ++ texts)) bud
    ∙ ap (λ (xs : List ℕ). BUD ∷ xs) same
    ∙ ap (λ (xs : List ℕ). xs ++ placed rest texts) (sym (filled_bud x pattern sides bud))

placed_pattern : (pattern rest : List ℕ) (sides texts : List (List ℕ)) → IsTwo pattern → length sides ≡ tally SLOT pattern → placed (pattern ++ rest) (sides ++ texts) ≡ filled pattern sides ++ placed rest texts
placed_pattern [] rest [] texts two l = refl
placed_pattern [] rest (side ∷ sides) texts two l = absurd (let t = tally-nil SLOT in omega (arith, t))
placed_pattern (x ∷ pattern) rest [] texts two l = elim two.0 [
  | inl bud ↦
      let t = tally_no SLOT x pattern (λ e. omega arith) in
      placed_bud x pattern rest [] texts bud (placed_pattern pattern rest [] texts two.1 (l ∙ t))
  | inr slot ↦ absurd (let t = tally_yes SLOT x pattern slot in omega (arith, t))
]
placed_pattern (x ∷ pattern) rest (side ∷ sides) texts two l = elim two.0 [
  | inl bud ↦
      let t = tally_no SLOT x pattern (λ e. omega arith) in
      placed_bud x pattern rest (side ∷ sides) texts bud (placed_pattern pattern rest (side ∷ sides) texts two.1 (l ∙ t))
  | inr slot ↦
      let t = tally_yes SLOT x pattern slot in
      placed_slot x (pattern ++ rest) side (sides ++ texts) slot
      ∙ ap (λ (xs : List ℕ). side ++ xs) (placed_pattern pattern rest sides texts two.1 (omega (arith, t)))
      ∙ sym (append_assoc side (filled pattern sides) (placed rest texts))
      ∙ ap (λ (xs : List ℕ). xs ++ placed rest texts) (sym (filled_slot x pattern side sides (λ e. omega arith)))
]

-- trees beside others
beside : (xs ys : List Kind) (texts others : List (List ℕ)) → AreSides xs texts → AreSides ys others → AreSides (xs ++ ys) (texts ++ others)
beside _ ys _ others none k = k
beside _ ys _ others (leaf later texts h) k = leaf (later ++ ys) (texts ++ others) (beside later ys texts others h k)
beside _ ys _ others (node kind under later pattern sides texts p h n i) k =
    subst (λ (xs : List Kind). AreSides (kind ∷ xs) ((OPEN ∷ filled pattern sides ++ CLOSE ∷ []) ∷ (texts ++ others))) (sym (append_assoc under later ys))
    (node kind under (later ++ ys) pattern sides (texts ++ others) p h n (beside later ys texts others i k))

-- there are no more trees than objects
sides_within : (xs : List Kind) (texts : List (List ℕ)) → AreSides xs texts → length texts ≤ length xs
sides_within _ _ none = omega arith
sides_within _ _ (leaf later texts h) = let t = sides_within later texts h in omega arith
sides_within _ _ (node kind under later pattern sides texts p h n k) =
    let t = sides_within later texts k in
    let l = length-append under later in
    omega (arith, t, l)

-- the first object is a leaf, with the trees after it
record IsLeafFirst (later : List Kind) (texts : List (List ℕ)) : Type 0 where
  others : List (List ℕ)
  texts_are : texts ≡ (LEAF ∷ []) ∷ others
  are_sides : AreSides later others

leaf_first : (xs : List Kind) (texts : List (List ℕ)) (later : List Kind) → AreSides xs texts → xs ≡ Leaf ∷ later → IsLeafFirst later texts
leaf_first _ _ later none e = cc
leaf_first _ _ later (leaf others texts h) e = record { others = texts; texts_are = refl; are_sides = (let r : others ≡ later = cc in subst (λ (xs : List Kind). AreSides xs texts) r h) }
leaf_first _ _ later (node kind under others pattern sides texts p h n k) e = absurd (no_leaf kind pattern p cc)

-- the first object is a node with this pattern, with the trees in its slots and those after it
record IsNodeFirst (kind : Kind) (pattern : List ℕ) (later : List Kind) (texts : List (List ℕ)) : Type 0 where
  sides : List (List ℕ)
  others : List (List ℕ)
  counted : length sides ≡ half_of kind
  texts_are : texts ≡ (OPEN ∷ filled pattern sides ++ CLOSE ∷ []) ∷ others
  are_sides : AreSides later (sides ++ others)

node_first : (xs : List Kind) (texts : List (List ℕ)) (kind : Kind) (pattern : List ℕ) (later : List Kind) → AreSides xs texts → xs ≡ kind ∷ later → HasKind kind pattern → IsNodeFirst kind pattern later texts
node_first _ _ kind pattern later none e p = cc
node_first _ _ kind pattern later (leaf others texts h) e p = absurd (no_leaf kind pattern p cc)
node_first _ _ kind pattern later (node first under others model sides texts q h n k) e p =
    let f : first ≡ kind = cc in
    let r : under ++ others ≡ later = cc in
    let same : model ≡ pattern = one_pattern kind model pattern (subst (λ (k : Kind). HasKind k model) f q) p in
    record {
      sides = sides;
      others = texts;
      counted = n ∙ ap half_of f;
      texts_are = ap (λ (w : List ℕ). (OPEN ∷ filled w sides ++ CLOSE ∷ []) ∷ texts) same;
      are_sides = subst (λ (xs : List Kind). AreSides xs (sides ++ texts)) r (beside under others sides texts h k);
    }

-- a pattern is put before other letters
record IsPut (kind : Kind) (pattern rest : List ℕ) (sides texts : List (List ℕ)) : Type 0 where
  slots : tally SLOT (pattern ++ rest) ≡ half_of kind + tally SLOT rest
  letters : placed (pattern ++ rest) (sides ++ texts) ≡ filled pattern sides ++ placed rest texts

pattern_put : (kind : Kind) (pattern rest : List ℕ) (sides texts : List (List ℕ)) → HasKind kind pattern → length sides ≡ half_of kind → IsPut kind pattern rest sides texts
pattern_put kind pattern rest sides texts h l =
    let o = of_pattern (half_of kind) pattern (kind_pattern kind pattern h) in
    let t = tally-append SLOT pattern rest in
    record { slots = omega (arith, t, o.slots); letters = placed_pattern pattern rest sides texts o.two (l ∙ sym o.slots) }

-- the letters so far, and what lies ahead with the objects from this place on, are the word of the tree
pub record IsBegun (kinds : List Kind) (letters ahead : List ℕ) (next : ℕ) : Type 0 where
  pub texts : List (List ℕ)
  pub are_sides : AreSides (drop next kinds) texts
  pub counted : length texts ≡ tally SLOT (reverse ahead)
  pub is_planted : IsWordOfKinds kinds (letters ++ placed (reverse ahead) texts)

-- the root is no leaf
pub root_is_node : (kinds : List Kind) → All IsKind kinds → 1 < length kinds → IsGood 1 (letters_in kinds) → get_or kinds 0 Leaf ≡ Leaf → ⊥
root_is_node kinds each some good e =
    let w = word_exists kinds each some good in
    let r = root_node kinds w.0 w.1 in
    no_leaf r.kind r.pattern r.has_kind (sym (ap (λ (ks : List Kind). get_or ks 0 Leaf) r.kinds_are) ∙ e)

-- before the first letter
pub begun_start : (kinds : List Kind) (letters pattern ahead : List ℕ) → All IsKind kinds → 1 < length kinds → IsGood 1 (letters_in kinds) → letters ≡ [] → HasKind (get_or kinds 0 Leaf) pattern → ahead ≡ reverse pattern → IsBegun kinds letters ahead 1
begun_start kinds letters pattern ahead each many good l p a =
    let w = word_exists kinds each many good in
    let r = root_node kinds w.0 w.1 in
    let first : get_or kinds 0 Leaf ≡ r.kind = ap (λ (ks : List Kind). get_or ks 0 Leaf) r.kinds_are in
    let same : r.pattern ≡ pattern = one_pattern r.kind r.pattern pattern r.has_kind (subst (λ (k : Kind). HasKind k pattern) first p) in
    let put = pattern_put r.kind r.pattern [] r.sides [] r.has_kind r.counted in
    let stack : reverse ahead ≡ r.pattern ++ [] = ap reverse a ∙ reverse-reverse pattern ∙ sym same ∙ sym (append-nil r.pattern) in
    let rest : placed (reverse ahead) r.sides ≡ w.0 =
    ap (λ (xs : List ℕ). placed xs r.sides) stack ∙ ap (placed (r.pattern ++ [])) (sym (append-nil r.sides)) ∙ put.letters ∙ append-nil (filled r.pattern r.sides) ∙ r.word_is in
    let none_left = tally-nil SLOT in
    record {
      texts = r.sides;
      are_sides = subst (λ (ks : List Kind). AreSides ks r.sides) (sym (ap (drop 1) r.kinds_are)) r.are_sides;
      counted = (let s = put.slots in let t = ap (tally SLOT) stack in omega (arith, r.counted));
      is_planted = subst (IsWordOfKinds kinds) (sym rest ∙ ap (λ (xs : List ℕ). xs ++ placed (reverse ahead) r.sides) (sym l)) w.1;
    }

-- one letter more
grown_text : (kinds : List Kind) (letters more text rest : List ℕ) (x : ℕ) → IsWordOfKinds kinds (letters ++ text) → text ≡ x ∷ rest → more ≡ letters ++ x ∷ [] → IsWordOfKinds kinds (more ++ rest)
grown_text kinds letters more text rest x h e m =
    subst (IsWordOfKinds kinds) (ap (λ (xs : List ℕ). letters ++ xs) e ∙ sym (append_assoc letters (x ∷ []) rest) ∙ sym (ap (λ (xs : List ℕ). xs ++ rest) m)) h

last_first : (items ahead : List ℕ) (x : ℕ) → items ≡ ahead ++ x ∷ [] → reverse items ≡ x ∷ reverse ahead
last_first items ahead x e = ap reverse e ∙ reverse-append ahead (x ∷ [])

-- what lies ahead has this letter next
module _ (kinds : List Kind) (letters items ahead : List ℕ) (next x : ℕ) (b : IsBegun kinds letters items next) (e : items ≡ ahead ++ x ∷ []) where
  -- a letter that is no slot is written
  pub begun_plain : (more : List ℕ) → (x ≡ SLOT → ⊥) → more ≡ letters ++ x ∷ [] → IsBegun kinds more ahead next
  begun_plain more n m =
      let r = last_first items ahead x e in
      let text : placed (reverse items) b.texts ≡ x ∷ placed (reverse ahead) b.texts = ap (λ (xs : List ℕ). placed xs b.texts) r ∙ placed_plain x (reverse ahead) b.texts n in
      record {
        texts = b.texts;
        are_sides = b.are_sides;
        counted = b.counted ∙ ap (tally SLOT) r ∙ tally_no SLOT x (reverse ahead) n;
        is_planted = grown_text kinds letters more (placed (reverse items) b.texts) (placed (reverse ahead) b.texts) x b.is_planted text m;
      }

  -- a slot stands for a tree
  begun_slot : x ≡ SLOT → length b.texts ≡ suc (tally SLOT (reverse ahead))
  begun_slot s = b.counted ∙ ap (tally SLOT) (last_first items ahead x e) ∙ tally_yes SLOT x (reverse ahead) s

  pub next_within : x ≡ SLOT → next < length kinds
  next_within s = let c = begun_slot s in let w = sides_within (drop next kinds) b.texts b.are_sides in omega (arith, c, w, length-drop next kinds)

  -- the slot is a leaf
  pub begun_leaf : (more : List ℕ) (after : ℕ) → x ≡ SLOT → get_or kinds next Leaf ≡ Leaf → more ≡ letters ++ LEAF ∷ [] → after ≡ suc next → IsBegun kinds more ahead after
  begun_leaf more after s is m i =
      let l = leaf_first (drop next kinds) b.texts (drop (suc next) kinds) b.are_sides (drop-cons kinds next Leaf (next_within s) ∙ ap (λ (k : Kind). k ∷ drop (suc next) kinds) is) in
      let text : placed (reverse items) b.texts ≡ LEAF ∷ placed (reverse ahead) l.others =
      ap (placed (reverse items)) l.texts_are ∙ ap (λ (xs : List ℕ). placed xs ((LEAF ∷ []) ∷ l.others)) (last_first items ahead x e) ∙ placed_slot x (reverse ahead) (LEAF ∷ []) l.others s in
      subst (IsBegun kinds more ahead) (sym i) (record {
        texts = l.others;
        are_sides = l.are_sides;
        counted = (let c = begun_slot s in let t = ap length l.texts_are in omega (arith, c, t));
        is_planted = grown_text kinds letters more (placed (reverse items) b.texts) (placed (reverse ahead) l.others) LEAF b.is_planted text m;
      })

  -- the slot is a node
  pub begun_node : (more pattern later : List ℕ) (after : ℕ) → x ≡ SLOT → HasKind (get_or kinds next Leaf) pattern → more ≡ letters ++ OPEN ∷ [] → later ≡ (ahead ++ CLOSE ∷ []) ++ reverse pattern → after ≡ suc next → IsBegun kinds more later after
  begun_node more pattern later after s p m a i =
      let kind : Kind = get_or kinds next Leaf in
      let n = node_first (drop next kinds) b.texts (get_or kinds next Leaf) pattern (drop (suc next) kinds) b.are_sides (drop-cons kinds next Leaf (next_within s)) p in
      let stack : reverse later ≡ pattern ++ (CLOSE ∷ reverse ahead) =
      ap reverse a ∙ reverse-append (ahead ++ CLOSE ∷ []) (reverse pattern) ∙ ap (λ (xs : List ℕ). xs ++ reverse (ahead ++ CLOSE ∷ [])) (reverse-reverse pattern) ∙ ap (λ (xs : List ℕ). pattern ++ xs) (last_first (ahead ++ CLOSE ∷ []) ahead CLOSE refl) in
      let put = pattern_put (get_or kinds next Leaf) pattern (CLOSE ∷ reverse ahead) n.sides n.others p n.counted in
      let filling : List ℕ = filled pattern n.sides in
      let closing : placed (CLOSE ∷ reverse ahead) n.others ≡ CLOSE ∷ placed (reverse ahead) n.others = placed_plain CLOSE (reverse ahead) n.others (λ w. omega arith) in
      let behind : placed (reverse later) (n.sides ++ n.others) ≡ filling ++ CLOSE ∷ placed (reverse ahead) n.others =
      ap (λ (xs : List ℕ). placed xs (n.sides ++ n.others)) stack ∙ put.letters ∙ ap (λ (xs : List ℕ). filling ++ xs) closing in
      let text : placed (reverse items) b.texts ≡ OPEN ∷ placed (reverse later) (n.sides ++ n.others) =
      ap (placed (reverse items)) n.texts_are ∙ ap (λ (xs : List ℕ). placed xs ((OPEN ∷ filling ++ CLOSE ∷ []) ∷ n.others)) (last_first items ahead x e) ∙ placed_slot x (reverse ahead) (OPEN ∷ filling ++ CLOSE ∷ []) n.others s
      ∙ ap (λ (xs : List ℕ). OPEN ∷ xs) (append_assoc filling (CLOSE ∷ []) (placed (reverse ahead) n.others) ∙ sym behind) in
      let c = begun_slot s in
      let t = ap length n.texts_are in
      let d = tally_no SLOT CLOSE (reverse ahead) (λ w. omega arith) in
      let f = ap (tally SLOT) stack in
      let g = length-append n.sides n.others in
      subst (IsBegun kinds more later) (sym i) (record {
        texts = n.sides ++ n.others;
        are_sides = n.are_sides;
        counted = omega (arith, c, t, d, f, g, put.slots, n.counted);
        is_planted = grown_text kinds letters more (placed (reverse items) b.texts) (placed (reverse later) (n.sides ++ n.others)) OPEN b.is_planted text m;
      })
