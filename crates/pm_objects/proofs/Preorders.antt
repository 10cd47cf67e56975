-- The objects in preorder: there are some, and for one plane tree they are one list.
use Rattle.std.proofs.Common.{◌≡◌, ℕ, ◌+◌, ◌<◌, ◌≤◌, inl, inr, List, ◌++◌, ℤ, pos, neg_ℤ, slice_index, length, take, drop, refl, sym, ◌∙◌, ap, ap₂, subst, arith}
use Rattle.pm_words.proofs.PlaneWords.{letters-word}
use Rattle.std.specs.Prelude.{sum}
use Rattle.std.proofs.lemmas.Bool.{cases_order}
use Rattle.std.proofs.lemmas.Int.{ints}
use Rattle.std.proofs.lemmas.List.{drop-map, take-map, map-append, length-map}
use Rattle.pm_lehmer.specs.Lehmer.{IsArrangementCode, IsArrangementOf}
use Rattle.pm_lehmer.proofs.Arranged.{IsArrangementOf-unique, has_arrangement, length-arrangement}
use Rattle.pm_words.specs.Word.{IsGood, IsGoodStart, IsGoodStarts, sum_of, turned}
use Rattle.pm_words.specs.Plane.{letter_of}
use Rattle.pm_words.proofs.Cycle.{good_starts_exist}
use Rattle.pm_words.proofs.Heights.{IsLow, IsLow-from_good, length-turned}
use Rattle.pm_objects.specs.Objects.{AreApart, arities_of, arity_of, letters_of, nodes_of_ranges}
use Rattle.pm_objects.specs.Preorder.{ArePreordered}
use Rattle.pm_objects.proofs.ObjectCounts.{HasObjects, arranged_objects, letters_sum}

-- a word that sums to -1 has one good start
pub one_good_start : (word : List ℤ) (first second : ℕ) → sum_of word ≡ neg_ℤ (pos 1) → IsGoodStart 1 word first → IsGoodStart 1 word second → first ≡ second
one_good_start word first second sum one two =
    let low : IsLow 1 word first = IsLow-from_good 1 word first sum one in
    let also : IsLow 1 word second = IsLow-from_good 1 word second sum two in
    elim (cases_order first second) [
      | inl same ↦ same
      | inr apart ↦ elim apart [
        | inl less ↦ absurd (let a = low.after second less also.within in let b = also.before first less in omega (arith, ints, a, b))
        | inr more ↦ absurd (let a = also.after first more low.within in let b = low.before second more in omega (arith, ints, a, b))
      ]
    ]

-- the word of the turned objects is the turned word
pub letters_turned : (arities : List ℕ) (start : ℕ) (arrangement : List ℕ) → letters_of arities (turned start arrangement) ≡ turned start (letters_of arities arrangement)
letters_turned arities start arrangement =
    map-append (λ object. letter_of (arity_of arities object)) (drop start arrangement) (take start arrangement)
    ∙ ap₂ (λ (xs ys : List ℤ). xs ++ ys) (sym (drop-map (λ object. letter_of (arity_of arities object)) start arrangement)) (sym (take-map (λ object. letter_of (arity_of arities object)) start arrangement))

-- what holds of the objects of ranges in preorder
pub record IsPreorder (ranges : List (ℕ × ℕ)) (leaves goal start : ℕ) (objects : List ℕ) : Type 0 where
  pub long : length objects ≡ nodes_of_ranges ranges + leaves
  pub within : start < nodes_of_ranges ranges + leaves
  pub good : IsGood goal (letters_of (arities_of ranges) objects)
  pub has : HasObjects ranges leaves objects

pub preorder_is : (ranges : List (ℕ × ℕ)) (leaves goal : ℕ) (code : List ℕ) (start : ℕ) (objects : List ℕ) → AreApart ranges → length code ≡ nodes_of_ranges ranges + leaves → ArePreordered goal (arities_of ranges) code start objects
    → IsPreorder ranges leaves goal start objects
preorder_is ranges leaves goal code start objects are coded p =
    let all : length p.arrangement ≡ nodes_of_ranges ranges + leaves = length-arrangement code p.arrangement p.is_arranged ∙ coded in
    let letters : length (letters_of (arities_of ranges) p.arrangement) ≡ length p.arrangement = length-map p.arrangement (λ object. letter_of (arity_of (arities_of ranges) object)) in
    let within : start < nodes_of_ranges ranges + leaves = (let w = p.is_start.within in omega (arith, w, letters, all)) in
    record {
      long = ap length p.are_turned ∙ length-turned start p.arrangement (omega (arith, within, all)) ∙ all;
      within = within;
      good = subst (IsGood goal) (sym (ap (letters_of (arities_of ranges)) p.are_turned ∙ letters_turned (arities_of ranges) start p.arrangement)) p.is_start.good;
      has = arranged_objects ranges leaves start p.arrangement objects are p.is_arranged.is_permutation all p.are_turned;
    }

-- there is one preorder of one plane tree
pub record IsOnePreorder (first second : ℕ) (objects others : List ℕ) : Type 0 where
  pub starts : first ≡ second
  pub same : objects ≡ others

pub one_preorder : (arities code : List ℕ) (first second : ℕ) (objects others : List ℕ) → length arities ≤ length code → length code ≡ sum arities + 1 → ArePreordered 1 arities code first objects → ArePreordered 1 arities code second others
    → IsOnePreorder first second objects others
one_preorder arities code first second objects others few coded p q =
    let all = length-arrangement code p.arrangement p.is_arranged in
    let same : q.arrangement ≡ p.arrangement = IsArrangementOf-unique code q.arrangement p.arrangement q.is_arranged p.is_arranged in
    let total = letters_sum 1 arities p.arrangement p.is_arranged.is_permutation (omega (arith, few, all)) (omega (arith, coded, all)) in
    let starts : first ≡ second = one_good_start (letters_of arities p.arrangement) first second total p.is_start (subst (λ (xs : List ℕ). IsGoodStart 1 (letters_of arities xs) second) same q.is_start) in
    record { starts = starts; same = p.are_turned ∙ ap₂ (λ (n : ℕ) (xs : List ℕ). turned n xs) starts (sym same) ∙ sym q.are_turned }

-- where the starts of the arrangement's word are found, each is one of its good starts
pub preordered : (goal : ℕ) (arities code arrangement objects starts : List ℕ) (which start : ℕ) → IsArrangementOf code arrangement → IsGoodStarts goal (letters_of arities arrangement) starts → which < goal → start ≡ slice_index starts which
    → objects ≡ turned start arrangement → ArePreordered goal arities code start objects
preordered goal arities code arrangement objects starts which start arranged found less start_is turned_is = record {
  arrangement = arrangement;
  is_arranged = arranged;
  is_start = let many = found.as_many in subst (IsGoodStart goal (letters_of arities arrangement)) (sym start_is) (found.good which (omega (arith, many, less)));
  are_turned = turned_is;
}

-- each code has its preorder
pub record HasPreorder (goal : ℕ) (arities code : List ℕ) : Type 0 where
  pub start : ℕ
  pub objects : List ℕ
  pub are_preordered : ArePreordered goal arities code start objects

pub preorder_exists : (goal : ℕ) (arities code : List ℕ) → 0 < goal → length arities ≤ length code → length code ≡ sum arities + goal → IsArrangementCode code → HasPreorder goal arities code
preorder_exists goal arities code some few coded is_code =
    let arranged : (arrangement : List ℕ) × IsArrangementOf code arrangement = has_arrangement code is_code in
    let all = length-arrangement code arranged.0 arranged.1 in
    let letters : List ℤ = letters_of arities arranged.0 in
    let total : sum_of letters ≡ neg_ℤ (pos goal) = letters_sum goal arities arranged.0 arranged.1.is_permutation (omega (arith, few, all)) (omega (arith, coded, all)) in
    let found : (starts : List ℕ) × IsGoodStarts goal letters starts = good_starts_exist goal letters some (letters-word (arity_of arities) arranged.0) total in
    let start : ℕ = slice_index found.0 0 in
    record {
      start = start;
      objects = turned start arranged.0;
      are_preordered = preordered goal arities code arranged.0 (turned start arranged.0) found.0 0 start arranged.1 found.1 some refl refl;
    }
