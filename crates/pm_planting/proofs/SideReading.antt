-- A blossoming tree is read in one way: its word tells the kinds of its objects in preorder.
use Rattle.std.proofs.Common.{◌≡◌, ◌⊎◌, ℕ, ◌+◌, ◌==◌, inl, inr, List, [], ◌∷◌, ◌++◌, length, All, refl, ap, sym, ◌∙◌, subst, arith, append_assoc}
use Rattle.std.proofs.lemmas.List.{map-append}
use Rattle.std.proofs.lemmas.List.Sums.{count_by-le-length}
use Rattle.std.proofs.lemmas.List.Elements.{All-nil, All-cons, All-head, All-tail}
use Rattle.pm_trees.specs.declared.letters.TheConstants.{LEAF, BUD}
use Rattle.pm_brackets.specs.declared.letters.TheConstants.{OPEN, CLOSE}
use Rattle.pm_trees.specs.declared.patterns.TheConstants.{SLOT}
use Rattle.pm_trees.specs.BudPattern.{IsPattern}
use Rattle.pm_brackets.proofs.Dyck.{IsDyck}
use Rattle.pm_brackets.proofs.Dyck.IsDyck.{empty, letter, bracket}
use Rattle.pm_brackets.proofs.Tally.{tally, tally_is, tally_yes, tally_no}
use Rattle.pm_planting.specs.Kinds.{AreSides, HasKind, IsWordOfKinds, half_of, halves_in}
use Rattle.pm_planting.specs.Kinds.AreSides.{none, leaf, node}
use Rattle.pm_planting.specs.Kinds.{filled}
use Rattle.pm_planting.specs.declared.kind.Kind.{Kind}
use Rattle.pm_planting.specs.declared.kind.Kind.TheVariants.{Leaf}
use Rattle.pm_planting.proofs.KindPatterns.{kind_pattern, one_kind}
use Rattle.pm_planting.proofs.FilledRows.{AreRows, filled_bud, filled_slot, node_row}
use Rattle.pm_planting.proofs.FilledRows.AreRows.{no_rows, one_row}
use Rattle.pm_planting.proofs.RootRows.{root_side}
use Rattle.pm_planting.proofs.Rows.{row_leaf}
use Rattle.pm_planting.proofs.SideTexts.{same_push}

pub kinds_rows : (kinds : List Kind) (texts : List (List ℕ)) → AreSides kinds texts → AreRows (halves_in kinds) texts
kinds_rows _ _ none = no_rows
kinds_rows _ _ (leaf later texts h) = one_row (0 ∷ []) (halves_in later) (LEAF ∷ []) texts row_leaf (kinds_rows later texts h)
kinds_rows _ _ (node kind under later pattern sides texts p h e k) =
    let text : List ℕ = OPEN ∷ filled pattern sides ++ CLOSE ∷ [] in
    let side = root_side (half_of kind ∷ halves_in under) (filled pattern sides) (node_row (half_of kind) pattern (halves_in under) sides (kind_pattern kind pattern p) e (kinds_rows under sides h)) in
    subst (λ (hs : List ℕ). AreRows (half_of kind ∷ hs) (text ∷ texts)) (sym (map-append half_of under later))
    (one_row (half_of kind ∷ halves_in under) (halves_in later) text texts side (kinds_rows later texts k))

-- what is closed by the next bracket
record IsSameClosed (xs ys more rest : List ℕ) : Type 0 where
  inside : xs ≡ ys
  behind : more ≡ rest

same_closed : (xs ys more rest : List ℕ) → IsDyck xs → IsDyck ys → xs ++ CLOSE ∷ more ≡ ys ++ CLOSE ∷ rest → IsSameClosed xs ys more rest
same_closed _ _ more rest empty empty e = record { inside = refl; behind = cc }
same_closed _ _ more rest empty (letter y ys o b) e = absurd (o.not_close (sym (cc)))
same_closed _ _ more rest empty (bracket ys zs b c) e = absurd (let a : CLOSE ≡ OPEN = cc in omega (arith, a))
same_closed _ _ more rest (letter x xs o a) empty e = absurd (o.not_close (cc))
same_closed _ _ more rest (letter x xs o a) (letter y ys p b) e =
    let t : xs ++ CLOSE ∷ more ≡ ys ++ CLOSE ∷ rest = cc in
    let h = same_closed xs ys more rest a b t in
    let i = h.inside in
    record { inside = cc; behind = h.behind }
same_closed _ _ more rest (letter x xs o a) (bracket ys zs b c) e = absurd (o.not_open (cc))
same_closed _ _ more rest (bracket xs ws a d) empty e = absurd (let a : OPEN ≡ CLOSE = cc in omega (arith, a))
same_closed _ _ more rest (bracket xs ws a d) (letter y ys o b) e = absurd (o.not_open (sym (cc)))
same_closed _ _ more rest (bracket xs ws a d) (bracket ys zs b c) e =
    let t : (xs ++ CLOSE ∷ ws) ++ CLOSE ∷ more ≡ (ys ++ CLOSE ∷ zs) ++ CLOSE ∷ rest = cc in
    let u : xs ++ CLOSE ∷ (ws ++ CLOSE ∷ more) ≡ ys ++ CLOSE ∷ (zs ++ CLOSE ∷ rest) =
    sym (append_assoc xs (CLOSE ∷ ws) (CLOSE ∷ more)) ∙ t ∙ append_assoc ys (CLOSE ∷ zs) (CLOSE ∷ rest) in
    let h = same_closed xs ys (ws ++ CLOSE ∷ more) (zs ++ CLOSE ∷ rest) a b u in
    let k = same_closed ws zs more rest d c h.behind in
    let i = h.inside in
    let j = k.inside in
    record { inside = cc; behind = k.behind }

-- the text of one tree: a leaf, or what stands in brackets
pub data IsSideText : List ℕ → Type 0 where
  a_leaf : IsSideText (LEAF ∷ [])
  a_node : (xs : List ℕ) → IsDyck xs → IsSideText (OPEN ∷ xs ++ CLOSE ∷ [])

pub side_texts : (kinds : List Kind) (texts : List (List ℕ)) → AreSides kinds texts → All IsSideText texts
side_texts _ _ none = All-nil IsSideText
side_texts _ _ (leaf later texts h) = All-cons IsSideText (LEAF ∷ []) texts a_leaf (side_texts later texts h)
side_texts _ _ (node kind under later pattern sides texts p h e k) =
    let root = node_row (half_of kind) pattern (halves_in under) sides (kind_pattern kind pattern p) e (kinds_rows under sides h) in
    All-cons IsSideText (OPEN ∷ filled pattern sides ++ CLOSE ∷ []) texts (a_node (filled pattern sides) root.row.dyck) (side_texts later texts k)

-- texts that begin the same
record IsSameFirst (s t more rest : List ℕ) : Type 0 where
  first : s ≡ t
  behind : more ≡ rest

same_first : (s t more rest : List ℕ) → IsSideText s → IsSideText t → s ++ more ≡ t ++ rest → IsSameFirst s t more rest
same_first _ _ more rest a_leaf a_leaf e = record { first = refl; behind = cc }
same_first _ _ more rest a_leaf (a_node ys b) e = absurd (let a : LEAF ≡ OPEN = cc in omega (arith, a))
same_first _ _ more rest (a_node xs a) a_leaf e = absurd (let a : OPEN ≡ LEAF = cc in omega (arith, a))
same_first _ _ more rest (a_node xs a) (a_node ys b) e =
    let t : (xs ++ CLOSE ∷ []) ++ more ≡ (ys ++ CLOSE ∷ []) ++ rest = cc in
    let u : xs ++ CLOSE ∷ more ≡ ys ++ CLOSE ∷ rest = sym (append_assoc xs (CLOSE ∷ []) more) ∙ t ∙ append_assoc ys (CLOSE ∷ []) rest in
    let h = same_closed xs ys more rest a b u in
    let i = h.inside in
    record { first = cc; behind = h.behind }

-- no text of a tree begins with a bud
no_bud : (s more rest : List ℕ) → IsSideText s → s ++ more ≡ BUD ∷ rest → ⊥
no_bud _ more rest a_leaf e = let a : LEAF ≡ BUD = cc in omega (arith, a)
no_bud _ more rest (a_node xs a) e = let b : OPEN ≡ BUD = cc in omega (arith, b)

no_end : (s more : List ℕ) → IsSideText s → s ++ more ≡ [] → ⊥
no_end _ more a_leaf e = cc
no_end _ more (a_node xs a) e = cc

-- a pattern and the texts in its slots
pub record IsFilling (pattern : List ℕ) (texts : List (List ℕ)) : Type 0 where
  pub letters : All (λ x. (x ≡ BUD) ⊎ (x ≡ SLOT)) pattern
  pub as_many : length texts + tally BUD pattern ≡ length pattern
  pub sides : All IsSideText texts

-- its first entry
data IsFirstEntry (pattern : List ℕ) (texts : List (List ℕ)) : Type 0 where
  ends : pattern ≡ [] → texts ≡ [] → IsFirstEntry pattern texts
  begins_bud : (later : List ℕ) → pattern ≡ BUD ∷ later → filled pattern texts ≡ BUD ∷ filled later texts → IsFilling later texts → IsFirstEntry pattern texts
  begins_slot : (later text : List ℕ) (others : List (List ℕ)) → pattern ≡ SLOT ∷ later → texts ≡ text ∷ others → filled pattern texts ≡ text ++ filled later others → IsSideText text
      → IsFilling later others → IsFirstEntry pattern texts

first_entry : (pattern : List ℕ) (texts : List (List ℕ)) → IsFilling pattern texts → IsFirstEntry pattern texts
first_entry [] [] f = ends refl refl
first_entry [] (text ∷ texts) f = absurd (let m = f.as_many in omega (arith, m))
first_entry (x ∷ pattern) texts f = elim (All-head (λ x. (x ≡ BUD) ⊎ (x ≡ SLOT)) x pattern f.letters) [
  | inl bud ↦
      let t = tally_yes BUD x pattern bud in
      let m = f.as_many in
      begins_bud pattern (ap (λ y. y ∷ pattern) bud) (filled_bud x pattern texts bud)
      (record { letters = All-tail (λ x. (x ≡ BUD) ⊎ (x ≡ SLOT)) x pattern f.letters; as_many = omega (arith, t, m); sides = f.sides })
  | inr slot ↦ slot_entry x pattern texts f slot
] where
  slot_entry : (x : ℕ) (pattern : List ℕ) (texts : List (List ℕ)) → IsFilling (x ∷ pattern) texts → x ≡ SLOT → IsFirstEntry (x ∷ pattern) texts
  slot_entry x pattern [] f slot =
      absurd (
      let t = tally_no BUD x pattern (λ e. omega (arith, e, slot)) in
      let m = f.as_many in
      let n = tally_is BUD pattern in
      let few = count_by-le-length (λ y. y == BUD) pattern in
      omega (arith, t, m, n, few)
      )
  slot_entry x pattern (text ∷ texts) f slot =
      let t = tally_no BUD x pattern (λ e. omega (arith, e, slot)) in
      let m = f.as_many in
      begins_slot pattern text texts (ap (λ y. y ∷ pattern) slot) refl (filled_slot x pattern text texts (λ e. omega (arith, e, slot))) (All-head IsSideText text texts f.sides)
      (record { letters = All-tail (λ x. (x ≡ BUD) ⊎ (x ≡ SLOT)) x pattern f.letters; as_many = omega (arith, t, m); sides = All-tail IsSideText text texts f.sides })

-- one pattern with one list of texts
record IsSameFilling (p q : List ℕ) (texts others : List (List ℕ)) : Type 0 where
  patterns : p ≡ q
  fillings : texts ≡ others

same_entry : (x : ℕ) (p q : List ℕ) (texts others : List (List ℕ)) → IsFirstEntry (x ∷ p) texts → IsFirstEntry q others → filled (x ∷ p) texts ≡ filled q others
    → ((later : List ℕ) (more rest : List (List ℕ)) → IsFilling p more → IsFilling later rest → filled p more ≡ filled later rest → IsSameFilling p later more rest) → IsSameFilling (x ∷ p) q texts others
same_entry x p q texts others (ends a b) m e rest = absurd cc
same_entry x p q texts others (begins_bud later a f g) (ends b c) e rest = absurd (let z : BUD ∷ filled later texts ≡ [] = sym f ∙ e ∙ ap (λ w. filled w others) b ∙ ap (filled []) c in cc)
same_entry x p q texts others (begins_bud later a f g) (begins_bud after b h k) e rest =
    let z : BUD ∷ filled later texts ≡ BUD ∷ filled after others = sym f ∙ e ∙ h in
    let same : later ≡ p = cc in
    let t : filled later texts ≡ filled after others = cc in
    let r = rest after texts others (subst (λ (w : List ℕ). IsFilling w texts) same g) k (ap (λ (w : List ℕ). filled w texts) (sym same) ∙ t) in
    record { patterns = a ∙ ap (λ (w : List ℕ). BUD ∷ w) (same ∙ r.patterns) ∙ sym b; fillings = r.fillings }
same_entry x p q texts others (begins_bud later a f g) (begins_slot after text more b c h s k) e rest = absurd (no_bud text (filled after more) (filled later texts) s (sym h ∙ sym e ∙ f))
same_entry x p q texts others (begins_slot later text more a c f s g) (ends b d) e rest =
    absurd (no_end text (filled later more) s (sym f ∙ e ∙ ap (λ w. filled w others) b ∙ ap (filled []) d))
same_entry x p q texts others (begins_slot later text more a c f s g) (begins_bud after b h k) e rest = absurd (no_bud text (filled later more) (filled after others) s (sym f ∙ e ∙ h))
same_entry x p q texts others (begins_slot later text more a c f s g) (begins_slot after first also b d h t k) e rest =
    let z = same_first text first (filled later more) (filled after also) s t (sym f ∙ e ∙ h) in
    let same : later ≡ p = cc in
    let r = rest after more also (subst (λ (w : List ℕ). IsFilling w more) same g) k (ap (λ (w : List ℕ). filled w more) (sym same) ∙ z.behind) in
    let i = z.first in
    let j = r.fillings in
    record { patterns = a ∙ ap (λ (w : List ℕ). SLOT ∷ w) (same ∙ r.patterns) ∙ sym b; fillings = (let l : text ∷ more ≡ first ∷ also = cc in c ∙ l ∙ sym d) }

same_filling : (p q : List ℕ) (texts others : List (List ℕ)) → IsFilling p texts → IsFilling q others → filled p texts ≡ filled q others → IsSameFilling p q texts others
same_filling [] q texts others f g e = no_entry (first_entry [] texts f) (first_entry q others g) where
  no_entry : IsFirstEntry [] texts → IsFirstEntry q others → IsSameFilling [] q texts others
  no_entry (ends a b) (ends c d) = record { patterns = sym c; fillings = b ∙ sym d }
  no_entry (ends a b) (begins_bud after c h k) = absurd (let z : [] ≡ BUD ∷ filled after others = ap (filled []) (sym b) ∙ e ∙ h in cc)
  no_entry (ends a b) (begins_slot after text more c d h s k) = absurd (no_end text (filled after more) s (sym h ∙ sym e ∙ ap (filled []) b))
  no_entry (begins_bud later a h k) m = absurd cc
  no_entry (begins_slot later text more a c h s k) m = absurd cc
same_filling (x ∷ p) q texts others f g e =
    same_entry x p q texts others (first_entry (x ∷ p) texts f) (first_entry q others g) e (λ later more rest h k i. same_filling p later more rest h k i)

filling : (half : ℕ) (kinds : List Kind) (pattern : List ℕ) (sides : List (List ℕ)) → IsPattern half pattern → AreSides kinds sides → length sides ≡ half → IsFilling pattern sides
filling half kinds pattern sides p h e =
    record { letters = p.letters; as_many = let t = tally_is BUD pattern in let l = p.as_long in let b = p.budded in omega (arith, t, l, b, e); sides = side_texts kinds sides h }

-- the same texts are those of objects of the same kinds
same_kinds : (kinds others : List Kind) (texts also : List (List ℕ)) → AreSides kinds texts → AreSides others also → texts ≡ also → kinds ≡ others
same_kinds _ _ _ _ none none e = refl
same_kinds _ _ _ _ none (leaf later texts h) e = absurd cc
same_kinds _ _ _ _ none (node kind under later pattern sides texts p h l k) e = absurd cc
same_kinds _ _ _ _ (leaf later texts h) none e = absurd cc
same_kinds _ _ _ _ (leaf later texts h) (leaf after also k) e =
    let t : texts ≡ also = cc in
    ap (λ (ks : List Kind). Leaf ∷ ks) (same_kinds later after texts also h k t)
same_kinds _ _ _ _ (leaf later texts h) (node kind under after pattern sides also p k l m) e = absurd (let a : LEAF ≡ OPEN = cc in omega (arith, a))
same_kinds _ _ _ _ (node kind under later pattern sides texts p h l k) none e = absurd cc
same_kinds _ _ _ _ (node kind under later pattern sides texts p h l k) (leaf after also m) e = absurd (let a : OPEN ≡ LEAF = cc in omega (arith, a))
same_kinds _ _ _ _ (node kind under later pattern sides texts p h l k) (node other below after model fillings also q i m j) e =
    let a : filled pattern sides ++ CLOSE ∷ [] ≡ filled model fillings ++ CLOSE ∷ [] = cc in
    let b : texts ≡ also = cc in
    let inside = (same_push (filled pattern sides) (filled model fillings) CLOSE CLOSE a).lists in
    let f = same_filling pattern model sides fillings (filling (half_of kind) under pattern sides (kind_pattern kind pattern p) h l) (filling (half_of other) below model fillings (kind_pattern other model q) i m) inside in
    let g = f.fillings in
    let same : kind ≡ other = one_kind kind other model (subst (HasKind kind) f.patterns p) q in
    let c = same_kinds under below sides fillings h i g in
    let d = same_kinds later after texts also k j b in
    cc

-- the word of a tree tells the kinds of its objects
pub one_reading : (kinds others : List Kind) (word : List ℕ) → IsWordOfKinds kinds word → IsWordOfKinds others word → kinds ≡ others
one_reading kinds others word h k = same_kinds kinds others ((OPEN ∷ word ++ CLOSE ∷ []) ∷ []) ((OPEN ∷ word ++ CLOSE ∷ []) ∷ []) h k refl
