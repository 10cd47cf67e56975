-- Objects are told by their arities and the codes of their ranges.
use Rattle.std.proofs.Common.{◌≡◌, ℕ, zero, suc, ◌<◌, ◌==◌, cond, inl, inr, List, [], ◌∷◌, ◌++◌, length, map, take, drop, ap, ap₂, sym, ◌∙◌, subst, arith, append_assoc, length-drop, take-append-drop}
use Rattle.std.specs.Prelude.{flat_map, nat_lt, count_by}
use Rattle.std.proofs.Math.Seq.{take-append_seam, drop-append_seam}
use Rattle.std.proofs.lemmas.Bool.{cases_eq}
use Rattle.std.proofs.lemmas.List.{nil_from_length}
use Rattle.std.proofs.lemmas.List.Sums.{length-filter}
use Rattle.pm_lehmer.specs.Lehmer.{code_of, count_below}
use Rattle.pm_lehmer.proofs.Arranged.{CountsAlike, code_of-injective, length-code_of}
use Rattle.pm_perm.specs.Permutation.{IsPermutationList}
use Rattle.pm_words.specs.Word.{turned}
use Rattle.pm_objects.specs.Codes.{codes_by_range}
use Rattle.pm_objects.specs.Objects.{range_at, arity_of, arities_of, objects_of}
use Rattle.pm_objects.proofs.ObjectCounts.{HasObjects, find_range}
use Rattle.pm_objects.proofs.ObjectSums.{sum_by-permutation, sum_by-turned, sum_upto}
use Rattle.pm_objects.proofs.Sorting.{one_sorting, sum_by-kept}

-- lists with as many entries before the others
record IsSameCut (xs ys us vs : List ℕ) : Type 0 where
  prefixes : xs ≡ ys
  rests : us ≡ vs

same_cut : (xs ys us vs : List ℕ) → length xs ≡ length ys → xs ++ us ≡ ys ++ vs → IsSameCut xs ys us vs
same_cut xs ys us vs long e = record {
  prefixes = sym (take-append_seam xs us) ∙ ap₂ (λ (n : ℕ) (ls : List ℕ). take n ls) long e ∙ take-append_seam ys vs;
  rests = sym (drop-append_seam xs us) ∙ ap₂ (λ (n : ℕ) (ls : List ℕ). drop n ls) long e ∙ drop-append_seam ys vs;
}

-- lists of as many entries for each range, one after another
record AreSameParts (f g : ℕ × ℕ → List ℕ) (ranges : List (ℕ × ℕ)) (us vs : List ℕ) : Type 0 where
  each : (k : ℕ) → k < length ranges → f (range_at ranges k) ≡ g (range_at ranges k)
  rests : us ≡ vs

same_parts : (f g : ℕ × ℕ → List ℕ) (ranges : List (ℕ × ℕ)) (us vs : List ℕ) → ((k : ℕ) → k < length ranges → length (f (range_at ranges k)) ≡ length (g (range_at ranges k)))
    → flat_map f ranges ++ us ≡ flat_map g ranges ++ vs → AreSameParts f g ranges us vs
same_parts f g [] us vs long e = record { each = λ k less. absurd (omega arith); rests = e }
same_parts f g (p ∷ ranges) us vs long e =
    let cut = same_cut (f p) (g p) (flat_map f ranges ++ us) (flat_map g ranges ++ vs) (long 0 (omega arith)) (sym (append_assoc (f p) (flat_map f ranges) us) ∙ e ∙ append_assoc (g p) (flat_map g ranges) vs) in
    let rest = same_parts f g ranges us vs (λ k less. long (suc k) (omega arith)) cut.rests in
    record { each = both cut.prefixes rest.each; rests = rest.rests } where
      both : f p ≡ g p → ((k : ℕ) → k < length ranges → f (range_at ranges k) ≡ g (range_at ranges k)) → (k : ℕ) → k < suc (length ranges) → f (range_at (p ∷ ranges) k) ≡ g (range_at (p ∷ ranges) k)
      both here later zero less = here
      both here later (suc k) less = later k (omega arith)

-- of each arity two arrangements have the same objects
below_kept : (arities : List ℕ) (arity start bound : ℕ) (arrangement : List ℕ) → IsPermutationList arrangement
    → count_below bound (objects_of arities arity (turned start arrangement)) ≡ sum_upto (λ object. cond (arity_of arities object == arity) (cond (nat_lt object bound) 1 0) 0) (length arrangement)
unfolding count_below
below_kept arities arity start bound arrangement is =
    sum_by-kept (λ object. cond (nat_lt object bound) 1 0) (λ object. arity_of arities object == arity) (turned start arrangement)
    ∙ sum_by-turned (λ object. cond (arity_of arities object == arity) (cond (nat_lt object bound) 1 0) 0) start arrangement
    ∙ sum_by-permutation (λ object. cond (arity_of arities object == arity) (cond (nat_lt object bound) 1 0) 0) arrangement is

alike : (arities : List ℕ) (arity first second : ℕ) (xs ys : List ℕ) → IsPermutationList xs → IsPermutationList ys → length xs ≡ length ys
    → CountsAlike (objects_of arities arity (turned first xs)) (objects_of arities arity (turned second ys))
alike arities arity first second xs ys x y long = record {
  same = λ bound. below_kept arities arity first bound xs x
      ∙ ap (sum_upto (λ object. cond (arity_of arities object == arity) (cond (nat_lt object bound) 1 0) 0)) long ∙ sym (below_kept arities arity second bound ys y);
}

-- a list is told by what it is when it is turned
pub turned_injective : (start : ℕ) (xs ys : List ℕ) → length xs ≡ length ys → turned start xs ≡ turned start ys → xs ≡ ys
turned_injective start xs ys long e =
    let a = length-drop start xs in
    let b = length-drop start ys in
    let cut = same_cut (drop start xs) (drop start ys) (take start xs) (take start ys) (omega (arith, a, b, long)) e in
    sym (take-append-drop start xs) ∙ ap₂ (λ (us vs : List ℕ). us ++ vs) cut.rests cut.prefixes ∙ take-append-drop start ys

-- objects whose codes by range are the same
module _ (ranges : List (ℕ × ℕ)) (leaves : ℕ) (xs ys : List ℕ) (x_has : HasObjects ranges leaves xs) (y_has : HasObjects ranges leaves ys)
    (same : (arity : ℕ) → CountsAlike (objects_of (arities_of ranges) arity xs) (objects_of (arities_of ranges) arity ys)) (codes : codes_by_range ranges xs ≡ codes_by_range ranges ys) where
  long : (arity : ℕ) (objects : List ℕ) → length (code_of (objects_of (arities_of ranges) arity objects)) ≡ count_by (λ object. arity_of (arities_of ranges) object == arity) objects
  long arity objects = length-code_of (objects_of (arities_of ranges) arity objects) ∙ length-filter (λ object. arity_of (arities_of ranges) object == arity) objects

  parts : AreSameParts (λ p. code_of (objects_of (arities_of ranges) (p.0) xs)) (λ p. code_of (objects_of (arities_of ranges) (p.0) ys)) ranges
      (code_of (objects_of (arities_of ranges) 0 xs)) (code_of (objects_of (arities_of ranges) 0 ys))
  parts =
      same_parts (λ p. code_of (objects_of (arities_of ranges) (p.0) xs)) (λ p. code_of (objects_of (arities_of ranges) (p.0) ys)) ranges
      (code_of (objects_of (arities_of ranges) 0 xs)) (code_of (objects_of (arities_of ranges) 0 ys))
      (λ k less. long ((range_at ranges k).0) xs ∙ x_has.of_range k less ∙ sym (y_has.of_range k less) ∙ sym (long ((range_at ranges k).0) ys))
      codes

  none_of : (arity : ℕ) (objects : List ℕ) → count_by (λ object. arity_of (arities_of ranges) object == arity) objects ≡ 0 → objects_of (arities_of ranges) arity objects ≡ []
  none_of arity objects none = nil_from_length (objects_of (arities_of ranges) arity objects) (length-filter (λ object. arity_of (arities_of ranges) object == arity) objects ∙ none)

  pub same_objects : (arity : ℕ) → objects_of (arities_of ranges) arity xs ≡ objects_of (arities_of ranges) arity ys
  same_objects arity = elim (cases_eq arity 0) [
    | inl leaf ↦
        subst (λ (a : ℕ). objects_of (arities_of ranges) a xs ≡ objects_of (arities_of ranges) a ys) (sym leaf)
        (code_of-injective (objects_of (arities_of ranges) 0 xs) (objects_of (arities_of ranges) 0 ys) (same 0) parts.rests)
    | inr some ↦ elim (find_range ranges arity (length ranges)) [
      | inl found ↦
          subst (λ (a : ℕ). objects_of (arities_of ranges) a xs ≡ objects_of (arities_of ranges) a ys) found.2
          (code_of-injective (objects_of (arities_of ranges) (range_at ranges found.0).0 xs) (objects_of (arities_of ranges) (range_at ranges found.0).0 ys)
          (same (range_at ranges found.0).0) (parts.each found.0 found.1))
      | inr none ↦ none_of arity xs (x_has.of_no_range arity (omega (arith, some)) none) ∙ sym (none_of arity ys (y_has.of_no_range arity (omega (arith, some)) none))
    ]
  ]

-- objects with the same arities and codes, which are arrangements of as many read cyclically from somewhere, are the same
pub one_order : (ranges : List (ℕ × ℕ)) (leaves first second : ℕ) (xs ys us vs : List ℕ) → HasObjects ranges leaves us → HasObjects ranges leaves vs → IsPermutationList xs → IsPermutationList ys → length xs ≡ length ys
    → us ≡ turned first xs → vs ≡ turned second ys → map (arity_of (arities_of ranges)) us ≡ map (arity_of (arities_of ranges)) vs → codes_by_range ranges us ≡ codes_by_range ranges vs → us ≡ vs
one_order ranges leaves first second xs ys us vs us_have vs_have x y long u v keys codes =
    one_sorting (arity_of (arities_of ranges)) us vs keys (same_objects ranges leaves us vs us_have vs_have counts codes) where
      counts : (arity : ℕ) → CountsAlike (objects_of (arities_of ranges) arity us) (objects_of (arities_of ranges) arity vs)
      counts arity =
          subst (λ (os : List ℕ). CountsAlike (objects_of (arities_of ranges) arity os) (objects_of (arities_of ranges) arity vs)) (sym u)
          (subst (λ (os : List ℕ). CountsAlike (objects_of (arities_of ranges) arity (turned first xs)) (objects_of (arities_of ranges) arity os)) (sym v) (alike (arities_of ranges) arity first second xs ys x y long))
