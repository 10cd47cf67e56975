-- Bits whose weights sum to -2, which is reached at the last bit only, are those of one stem tree.
use Rattle.std.proofs.Common.{◌≡◌, ℕ, suc, ◌+◌, ◌-◌, ◌*◌, ◌/◌, ◌≤◌, ◌<◌, ◌==◌, inl, inr, Option, Some, option_to_list, get_or, Bool, true, false, List, [], ◌∷◌, ◌++◌, length, take, drop, map, reverse, refl, ap, ◌∙◌, sym, subst, arith, append_assoc, ℤ, pos, negsuc, neg_ℤ, ◌+ℤ◌}
use Rattle.std.specs.Prelude.{◌<ℤ◌}
use Rattle.std.proofs.lemmas.Bool.{cases_lt}
use Rattle.std.proofs.lemmas.Int.{ints}
use Rattle.std.proofs.lemmas.List.{append-nil, drop_all, drop_more, get_or-take, length-drop, length-reverse, length-take-le, nil_from_length, reverse-append}
use Rattle.pm_limits.specs.declared.TheConstants.{MAX_EDGES}
use Rattle.pm_words.specs.Word.{IsGood}
use Rattle.pm_words.proofs.PlaneWords.{sum_of-cons}
use Rattle.pm_brackets.specs.declared.letters.TheConstants.{OPEN, CLOSE}
use Rattle.pm_tri.specs.declared.letters.TheConstants.{STEM}
use Rattle.pm_tri.specs.StemTree.{IsShort}
use Rattle.pm_tri.specs.Bits.{AreTreeBits, BitsHaveTrees, BitsTellTrees, IsTreeOfBits, TreesHaveBits, bits_of, weight}
use Rattle.pm_tri.proofs.CountReading.{Reads, length_bits, reads_good, reads_once, tree_bits, wants, wants-cons, wants-none}
use Rattle.pm_tri.proofs.StemReading.{reads_stem_tree, stem_tree_reads}

-- the counts of open nodes: none has three stems
abbrev pub AreLow : List ℕ → Type 0
AreLow [] = Unit {0}
AreLow (count ∷ above) = (count ≤ 2) × AreLow above

-- the bits that are left for the open nodes
pub record AreLeft (counts : List ℕ) (bits : List Bool) : Type 0 where
  pub low : AreLow counts
  pub good : IsGood (wants counts) (map weight bits)

-- what is good for a goal is good for the next one behind its first letter
good_next : (goal next : ℕ) (bit : ℤ) (xs : List ℤ) → pos goal +ℤ bit ≡ pos next → IsGood goal (bit ∷ xs) → IsGood next xs
good_next goal next bit xs e g = record {
  sum = (let a = sum_of-cons bit xs in let s = g.sum in omega (arith, ints, a, s, e));
  above = λ prefix l. (let a = sum_of-cons bit (take prefix xs) in let h = g.above (suc prefix) (omega (arith, l)) in omega (arith, ints, a, h, e));
}

some_wanted : (count : ℕ) (above : List ℕ) → count ≤ 2 → 0 < wants (count ∷ above)
some_wanted count above l = let a = wants-cons count above in omega (arith, a, l)

pub left_none : (count : ℕ) (above : List ℕ) → AreLeft (count ∷ above) [] → ⊥
left_none count above left =
    let a = some_wanted count above left.low.0 in
    let s : pos 0 ≡ neg_ℤ (pos (wants (count ∷ above))) = left.good.sum in
    absurd (omega (arith, ints, a, s))

pub left_one : (count : ℕ) (above : List ℕ) (bits : List Bool) → AreLeft (count ∷ above) (true ∷ bits) → AreLeft (0 ∷ count ∷ above) bits
left_one count above bits left = record {
  low = (omega arith, left.low);
  good = (let a = wants-cons 0 (count ∷ above) in good_next (wants (count ∷ above)) (wants (0 ∷ count ∷ above)) (pos 3) (map weight bits) (omega (arith, ints, a)) left.good);
}

pub left_stem : (count : ℕ) (above : List ℕ) (bits : List Bool) → count < 2 → AreLeft (count ∷ above) (false ∷ bits) → AreLeft (suc count ∷ above) bits
left_stem count above bits l left = record {
  low = (omega arith, left.low.1);
  good =
      (let a = wants-cons count above in
      let b = wants-cons (suc count) above in
      good_next (wants (count ∷ above)) (wants (suc count ∷ above)) (negsuc 0) (map weight bits) (omega (arith, ints, a, b, l)) left.good);
}

pub left_close : (count : ℕ) (above : List ℕ) (bits : List Bool) → 2 ≤ count → AreLeft (count ∷ above) (false ∷ bits) → AreLeft above bits
left_close count above bits l left = record {
  low = left.low.1;
  good =
      (let a = wants-cons count above in
      let b = left.low.0 in
      good_next (wants (count ∷ above)) (wants above) (negsuc 0) (map weight bits) (omega (arith, ints, a, b, l)) left.good);
}

-- the third zero of the root node is the last bit
pub left_last : (bits : List Bool) → AreLeft [] bits → bits ≡ []
left_last [] left = refl
left_last (bit ∷ bits) left =
    let a = wants-none in
    let h : neg_ℤ (pos (wants [])) <ℤ pos 0 = left.good.above 0 (omega arith) in
    absurd (omega (arith, ints, a, h))

two_from : (count : ℕ) → count ≤ 2 → 2 ≤ count → count ≡ 2
two_from count a b = omega arith

-- a word with these bits that the counts read
abbrev pub IsMade : List ℕ → List Bool → Type 0
IsMade counts bits = (word : List ℕ) × Reads counts word × (bits_of word ≡ bits)

made_closed : (count : ℕ) (above : List ℕ) (bits : List Bool) → ((parent : ℕ) (over : List ℕ) → AreLeft (parent ∷ over) bits → IsMade (parent ∷ over) bits) → AreLeft above bits → count ≡ 2 → IsMade (count ∷ above) (false ∷ bits)
made_closed count [] bits later left two = ([], ap (λ (k : ℕ). k ∷ []) two, ap (λ (xs : List Bool). false ∷ xs) (sym (left_last bits left)))
made_closed count (parent ∷ over) bits later left two =
    let after = later parent over left in
    (CLOSE ∷ after.0, inr (inr (refl, two, omega arith, after.1)), ap (λ (xs : List Bool). false ∷ xs) after.2)

-- the word that the bits tell
make : (count : ℕ) (above : List ℕ) (bits : List Bool) → AreLeft (count ∷ above) bits → IsMade (count ∷ above) bits
make count above [] left = absurd (left_none count above left)
make count above (true ∷ bits) left =
    let later = make 0 (count ∷ above) bits (left_one count above bits left) in
    (OPEN ∷ later.0, inr (inl (refl, left.low.0, later.1)), ap (λ (xs : List Bool). true ∷ xs) later.2)
make count above (false ∷ bits) left = elim (cases_lt count 2) [
  | inl less ↦
      let later = make (suc count) above bits (left_stem count above bits less left) in
      (STEM ∷ later.0, inl (refl, less, later.1), ap (λ (xs : List Bool). false ∷ xs) later.2)
  | inr full ↦ made_closed count above bits (λ parent over left. make parent over bits left) (left_close count above bits full left) (two_from count left.low.0 full)
]

-- as short as the bits say
short_word : (word : List ℕ) (bits : List Bool) → bits_of word ≡ bits → length bits ≤ 4 * (MAX_EDGES / 3) - 2 → IsShort word
short_word word bits e l =
    let a = ap (λ (xs : List Bool). length xs) e in
    let b = length_bits word in
    omega (arith, a, b, l)

pub tree_from_reads : (word : List ℕ) (bits : List Bool) → AreTreeBits bits → Reads (1 ∷ []) word → bits_of word ≡ bits → IsTreeOfBits word bits
tree_from_reads word bits are r e = record { tree = reads_stem_tree word (short_word word bits e are.short) r; bits_are = e }

-- all bits are left for the root node, which has the plant
pub left_all : (bits : List Bool) → AreTreeBits bits → AreLeft (1 ∷ []) bits
left_all bits are =
    let a = wants-cons 1 [] in
    let b = wants-none in
    let two : 2 ≡ wants (1 ∷ []) = omega (arith, a, b) in
    let P : ℕ → Type 0 = λ k. IsGood k (map weight bits) in
    record { low = (omega arith, tt); good = subst P two are.good }

pub bits_have_trees : BitsHaveTrees
bits_have_trees bits are =
    let made = make 1 [] bits (left_all bits are) in
    (made.0, tree_from_reads made.0 bits are made.1 made.2)

pub bits_tell_trees : BitsTellTrees
bits_tell_trees one other s t e = reads_once (1 ∷ []) one other (stem_tree_reads one s) (stem_tree_reads other t) e

pub trees_have_bits : TreesHaveBits
trees_have_bits word t =
    let r = stem_tree_reads word t in
    let l = length_bits word in
    let s = t.short in
    (record { good = reads_good word r; short = omega (arith, l, s) }, tree_bits word r)

-- the letters so far, with the stems of the open nodes: with each rest that reads the bits that are left they are the word of all
-- bits
pub record IsBuilding (bits : List Bool) (i : ℕ) (letters counts : List ℕ) : Type 0 where
  pub left : AreLeft counts (drop i bits)
  pub built : (rest : List ℕ) → Reads counts rest → bits_of rest ≡ drop i bits → Reads (1 ∷ []) (letters ++ rest) × (bits_of (letters ++ rest) ≡ bits)

pub building_start : (bits : List Bool) (letters parents : List ℕ) → AreTreeBits bits → letters ≡ [] → parents ≡ [] → IsBuilding bits 0 letters (1 ∷ reverse parents)
building_start bits letters parents are l p =
    let P : List ℕ → Type 0 = λ xs. IsBuilding bits 0 xs (1 ∷ reverse parents) in
    let Q : List ℕ → Type 0 = λ xs. IsBuilding bits 0 [] (1 ∷ reverse xs) in
    subst P (sym l) (subst Q (sym p) (record { left = left_all bits are; built = λ rest r e. (r, e) }))

-- one letter more
building_next : (bits : List Bool) (i : ℕ) (letters more counts next : List ℕ) (x : ℕ) (bit : Bool) → more ≡ letters ++ x ∷ [] → drop i bits ≡ bit ∷ drop (i + 1) bits → (x == OPEN) ≡ bit → AreLeft next (drop (i + 1) bits)
    → ((rest : List ℕ) → Reads next rest → Reads counts (x ∷ rest)) → IsBuilding bits i letters counts → IsBuilding bits (i + 1) more next
building_next bits i letters more counts next x bit m d b left reads building = record {
  left = left;
  built = λ rest r e.
      (let whole : letters ++ (x ∷ rest) ≡ more ++ rest = sym (append_assoc letters (x ∷ []) rest) ∙ ap (λ (xs : List ℕ). xs ++ rest) (sym m) in
      let P : List ℕ → Type 0 = λ xs. Reads (1 ∷ []) xs × (bits_of xs ≡ bits) in
      let behind : bits_of (x ∷ rest) ≡ bit ∷ drop (i + 1) bits = ap (λ (y : Bool). y ∷ bits_of rest) b ∙ ap (λ (xs : List Bool). bit ∷ xs) e in
      subst P whole (building.built (x ∷ rest) (reads rest r) (behind ∙ sym d)));
}

left_now : (bits : List Bool) (i : ℕ) (letters counts : List ℕ) (bit : Bool) → drop i bits ≡ bit ∷ drop (i + 1) bits → IsBuilding bits i letters counts → AreLeft counts (bit ∷ drop (i + 1) bits)
left_now bits i letters counts bit d building = (let P : List Bool → Type 0 = λ xs. AreLeft counts xs in subst P d building.left)

pub building_one : (bits : List Bool) (i : ℕ) (letters more parents ys : List ℕ) (stems : ℕ) → drop i bits ≡ true ∷ drop (i + 1) bits → more ≡ letters ++ OPEN ∷ [] → ys ≡ parents ++ stems ∷ []
    → IsBuilding bits i letters (stems ∷ reverse parents) → IsBuilding bits (i + 1) more (0 ∷ reverse ys)
building_one bits i letters more parents ys stems d m p building =
    let left = left_now bits i letters (stems ∷ reverse parents) true d building in
    let turned : reverse ys ≡ stems ∷ reverse parents = ap reverse p ∙ reverse-append parents (stems ∷ []) in
    let P : List ℕ → Type 0 = λ xs. IsBuilding bits (i + 1) more (0 ∷ xs) in
    subst P (sym turned)
    (building_next bits i letters more (stems ∷ reverse parents) (0 ∷ stems ∷ reverse parents) OPEN true m d refl (left_one stems (reverse parents) (drop (i + 1) bits) left)
    (λ rest r. inr (inl (refl, left.low.0, r))) building)

pub building_stem : (bits : List Bool) (i : ℕ) (letters more parents : List ℕ) (stems : ℕ) → drop i bits ≡ false ∷ drop (i + 1) bits → more ≡ letters ++ STEM ∷ [] → stems < 2
    → IsBuilding bits i letters (stems ∷ reverse parents) → IsBuilding bits (i + 1) more ((stems + 1) ∷ reverse parents)
building_stem bits i letters more parents stems d m less building =
    let left = left_now bits i letters (stems ∷ reverse parents) false d building in
    let one : suc stems ≡ stems + 1 = omega arith in
    let P : ℕ → Type 0 = λ k. IsBuilding bits (i + 1) more (k ∷ reverse parents) in
    subst P one
    (building_next bits i letters more (stems ∷ reverse parents) (suc stems ∷ reverse parents) STEM false m d refl (left_stem stems (reverse parents) (drop (i + 1) bits) less left)
    (λ rest r. inl (refl, less, r)) building)

pub building_close : (bits : List Bool) (i : ℕ) (letters more parents ys : List ℕ) (r : Option ℕ) (stems parent : ℕ) → drop i bits ≡ false ∷ drop (i + 1) bits → more ≡ letters ++ CLOSE ∷ [] → 2 ≤ stems → parents ≡ ys ++ option_to_list r → r ≡ Some parent
    → IsBuilding bits i letters (stems ∷ reverse parents) → IsBuilding bits (i + 1) more (parent ∷ reverse ys)
building_close bits i letters more parents ys r stems parent d m full p some building =
    let left = left_now bits i letters (stems ∷ reverse parents) false d building in
    let a : parents ≡ ys ++ parent ∷ [] = p ∙ ap (λ (t : Option ℕ). ys ++ option_to_list t) some in
    let turned : reverse parents ≡ parent ∷ reverse ys = ap reverse a ∙ reverse-append ys (parent ∷ []) in
    let two = two_from stems left.low.0 full in
    let P : List ℕ → Type 0 = λ xs. IsBuilding bits (i + 1) more xs in
    subst P turned
    (building_next bits i letters more (stems ∷ reverse parents) (reverse parents) CLOSE false m d refl (left_close stems (reverse parents) (drop (i + 1) bits) full left)
    (λ rest reads. inr (inr (refl, two, (let l = ap (λ (xs : List ℕ). length xs) turned in omega (arith, l)), reads))) building)

-- a node that ends before the last bit has one above it
some_above : (above : List ℕ) (bits : List Bool) → 0 < length bits → AreLeft above bits → 0 < length above
some_above [] bits l left = absurd (let e = ap (λ (xs : List Bool). length xs) (left_last bits left) in omega (arith, e, l))
some_above (parent ∷ over) bits l left = omega arith

pub building_parent : (bits : List Bool) (i : ℕ) (letters parents : List ℕ) (stems : ℕ) → i + 1 < length bits → drop i bits ≡ false ∷ drop (i + 1) bits → 2 ≤ stems → IsBuilding bits i letters (stems ∷ reverse parents) → 0 < length parents
building_parent bits i letters parents stems l d full building =
    let left = left_now bits i letters (stems ∷ reverse parents) false d building in
    let a = length-drop (i + 1) bits in
    let b = some_above (reverse parents) (drop (i + 1) bits) (omega (arith, a, l)) (left_close stems (reverse parents) (drop (i + 1) bits) full left) in
    let c = length-reverse parents in
    omega (arith, b, c)

-- the last bit ends the root node
last : (count : ℕ) (above : List ℕ) → count ≡ 2 → AreLeft above [] → count ∷ above ≡ 2 ∷ []
last count [] two none = ap (λ (k : ℕ). k ∷ []) two
last count (parent ∷ over) two none = absurd (left_none parent over none)

ended : (count : ℕ) (above : List ℕ) (bit : Bool) → AreLeft (count ∷ above) (bit ∷ []) → Reads (count ∷ above) [] × (bit ≡ false)
ended count above true left = absurd (left_none 0 (count ∷ above) (left_one count above [] left))
ended count above false left = elim (cases_lt count 2) [
  | inl less ↦ absurd (left_none (suc count) above (left_stem count above [] less left))
  | inr full ↦ (last count above (two_from count left.low.0 full) (left_close count above [] full left), refl)
]

pub building_end : (bits : List Bool) (i : ℕ) (letters parents : List ℕ) (stems : ℕ) → AreTreeBits bits → i ≡ length bits - 1 → IsBuilding bits i letters (stems ∷ reverse parents) → IsTreeOfBits letters bits
building_end bits i letters parents stems are e building =
    let some : 0 < length bits = elim (cases_lt 0 (length bits)) [ inl l ↦ l | inr n ↦ absurd (left_none 1 [] (let P : List Bool → Type 0 = λ xs. AreLeft (1 ∷ []) xs in subst P (nil_from_length bits (omega (arith, n))) (left_all bits are))) ] in
    let d = drop_more bits i true (omega (arith, some, e)) in
    let rest = drop_all (i + 1) bits (omega (arith, some, e)) in
    let P : List Bool → Type 0 = λ xs. AreLeft (stems ∷ reverse parents) xs in
    let one : drop i bits ≡ get_or bits i true ∷ [] = d ∙ ap (λ (xs : List Bool). get_or bits i true ∷ xs) rest in
    let end = ended stems (reverse parents) (get_or bits i true) (subst P one building.left) in
    let b : bits_of [] ≡ drop i bits = ap (λ (y : Bool). y ∷ []) (sym end.1) ∙ sym one in
    let whole = building.built [] end.0 b in
    let Q : List ℕ → Type 0 = λ xs. IsTreeOfBits xs bits in
    subst Q (append-nil letters) (tree_from_reads (letters ++ []) bits are whole.0 whole.1)

-- the same state under other names
pub building_same : (bits : List Bool) (i : ℕ) (letters xs ys : List ℕ) (stems new : ℕ) → new ≡ stems → ys ≡ xs → IsBuilding bits i letters (stems ∷ reverse xs) → IsBuilding bits i letters (new ∷ reverse ys)
building_same bits i letters xs ys stems new e f building =
    let P : ℕ → Type 0 = λ k. IsBuilding bits i letters (k ∷ reverse ys) in
    let Q : List ℕ → Type 0 = λ zs. IsBuilding bits i letters (stems ∷ reverse zs) in
    subst P (sym e) (subst Q (sym f) building)

-- a bit before the last one
pub prefix_bit : (bits : List Bool) (i : ℕ) (bit : Bool) → i < length (take (length bits - 1) bits) → get_or (take (length bits - 1) bits) i false ≡ bit → drop i bits ≡ bit ∷ drop (i + 1) bits
prefix_bit bits i bit l e =
    let a = length-take-le (length bits - 1) bits (omega arith) in
    let g = get_or-take (length bits - 1) bits i false (omega (arith, a, l)) in
    drop_more bits i false (omega (arith, a, l)) ∙ ap (λ (y : Bool). y ∷ drop (i + 1) bits) (sym g ∙ e)

pub prefix_length : (bits : List Bool) → length (take (length bits - 1) bits) ≡ length bits - 1
prefix_length bits = length-take-le (length bits - 1) bits (omega arith)
