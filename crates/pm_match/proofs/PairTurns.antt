-- Pairs and free leaves of a ring that is read from another place on.
use Rattle.std.proofs.Common.{◌≡◌, ◌≢◌, ℕ, zero, suc, ◌+◌, ◌-◌, ◌%◌, ◌<◌, inl, inr, eqb, true, false, List, ◌++◌, length, get_or, drop, refl, sym, ◌∙◌, ap, subst, add-one, arith, length-drop, get_or-drop}
use Rattle.std.specs.Prelude.{slice_index}
use Rattle.std.proofs.lemmas.Bool.{cases_lt, cases_eq, ne_eqb, eq-eqb}
use Rattle.std.proofs.lemmas.List.{length-append}
use Rattle.std.proofs.lemmas.List.Sums.{count_by_more_yes, count_by_more_no}
use Rattle.std.proofs.Math.Nat.{add-mod-mod, mod-add-mod, add-mod_left}
use Rattle.pm_trees.specs.declared.letters.TheConstants.{LEAF, BUD}
use Rattle.pm_brackets.specs.Word.{count, IsBracketing}
use Rattle.pm_trees.specs.Word.{contour}
use Rattle.pm_trees.specs.Blossoming.{IsBlossoming}
use Rattle.pm_trees.specs.Replanted.{IsReplanted}
use Rattle.pm_brackets.specs.Ring.{IsTurned, place_from}
use Rattle.pm_trees.proofs.FourLetters.{bracketing_exists}
use Rattle.pm_brackets.specs.Word.{IsOther}
use Rattle.pm_brackets.proofs.RingPlaces.{mod_stays, mod_under, steps_to, steps_to_is, steps_under, steps_lead, letter_back, turned_back}
use Rattle.pm_trees.proofs.Replants.{replanted_alike}
use Rattle.pm_match.specs.Pair.{IsPair, IsFree, stretch}
use Rattle.pm_match.specs.Turning.{PairsAreTurned, FreeLeavesAreTurned, FreeLeafBalances}
use Rattle.pm_match.proofs.Counts.{letter, letter-first, letter-second, bud_within, leaf_within}

bud_is_other : IsOther BUD
bud_is_other = record { not_open = λ e. absurd (omega arith); not_close = λ e. absurd (omega arith) }

leaf_is_other : IsOther LEAF
leaf_is_other = record { not_open = λ e. absurd (omega arith); not_close = λ e. absurd (omega arith) }

-- the letter at a place of two turns
letter_at : (places : List ℕ) (i : ℕ) → i < length places + length places → letter places i ≡ slice_index places (i % length places)
letter_at places i l = elim (cases_lt i (length places)) [
  | inl first ↦ letter-first places i first ∙ ap (slice_index places) (sym (mod_stays i (length places) first))
  | inr later ↦
      let m : ℕ = i - length places in
      let is : i ≡ length places + (i - length places) = omega arith in
      let inside : i - length places < length places = omega arith in
      ap (letter places) is ∙ letter-second places (i - length places)
      ∙ ap (slice_index places) (sym (mod_stays (i - length places) (length places) inside) ∙ sym (add-mod_left (length places) (i - length places)) ∙ ap (λ (k : ℕ). k % length places) (sym is))
]

-- the next letter of a stretch
next_letter : (places : List ℕ) (p k : ℕ) → get_or (drop (suc p) (places ++ places)) k 0 ≡ letter places (suc p + k)
unfolding letter
next_letter places p k = get_or-drop (suc p) (places ++ places) k 0

-- a stretch with one letter more
more_yes : (x : ℕ) (places : List ℕ) (p k : ℕ) → suc p + k < length places + length places → letter places (suc p + k) ≡ x → count x (stretch places p (suc k)) ≡ count x (stretch places p k) + 1
more_yes x places p k l e =
    let long : k < length (drop (suc p) (places ++ places)) = omega (arith, length-drop (suc p) (places ++ places), length-append places places) in
    let test : eqb (get_or (drop (suc p) (places ++ places)) k 0) x ≡ true = eq-eqb (get_or (drop (suc p) (places ++ places)) k 0) x (next_letter places p k ∙ e) in
    let step = count_by_more_yes (λ y. eqb y x) (drop (suc p) (places ++ places)) k 0 long test in rw add-one at step

more_no : (x : ℕ) (places : List ℕ) (p k : ℕ) → suc p + k < length places + length places → letter places (suc p + k) ≢ x → count x (stretch places p (suc k)) ≡ count x (stretch places p k)
more_no x places p k l ne =
    let long : k < length (drop (suc p) (places ++ places)) = omega (arith, length-drop (suc p) (places ++ places), length-append places places) in
    let test : eqb (get_or (drop (suc p) (places ++ places)) k 0) x ≡ false = ne_eqb (get_or (drop (suc p) (places ++ places)) k 0) x (λ e. ne (sym (next_letter places p k) ∙ e)) in
    let step = count_by_more_no (λ y. eqb y x) (drop (suc p) (places ++ places)) k 0 long test in rw add-one at step

module _ (xs other turned : List ℕ) (start : ℕ) (b : IsBracketing xs other) (s : start < length xs) (t : IsTurned xs start turned) where
  -- letters that are no brackets keep their places in the ring
  letter_there : (x p : ℕ) → IsOther x → p < length xs → slice_index turned p ≡ x → slice_index xs (place_from xs start p) ≡ x
  letter_there x p o l e = sym (letter_back xs other turned start p b (omega arith) t l (subst IsOther (sym e) o)) ∙ e

  letter_here : (x p : ℕ) → IsOther x → p < length xs → slice_index xs (place_from xs start p) ≡ x → slice_index turned p ≡ x
  letter_here x p o l e = t.letters p l (λ f. o.not_open (sym e ∙ f)) (λ f. o.not_close (sym e ∙ f)) ∙ e

  -- the place that is met some steps after a place
  after_there : (p k : ℕ) → (suc (place_from xs start p) + k) % length xs ≡ place_from xs start ((suc p + k) % length turned)
  after_there p k =
      let one : suc ((start + p) % length xs) + k ≡ (start + p) % length xs + suc k = omega arith in
      let two : start + p + suc k ≡ start + (suc p + k) = omega arith in
      ap (λ (i : ℕ). i % length xs) one ∙ mod-add-mod (start + p) (length xs) (suc k) ∙ ap (λ (i : ℕ). i % length xs) two
      ∙ sym (add-mod-mod start (suc p + k) (length xs)) ∙ ap (λ (n : ℕ). (start + (suc p + k) % n) % length xs) (sym t.as_long)

  letters_match : (x p k : ℕ) → IsOther x → p < length xs → k < length xs
      → (letter turned (suc p + k) ≡ x → letter xs (suc (place_from xs start p) + k) ≡ x) × (letter xs (suc (place_from xs start p) + k) ≡ x → letter turned (suc p + k) ≡ x)
  letters_match x p k o l m =
      let some : 0 < length xs = omega arith in
      let low : place_from xs start p < length xs = mod_under (start + p) (length xs) some in
      let long : length turned ≡ length xs = t.as_long in
      let here : letter turned (suc p + k) ≡ slice_index turned ((suc p + k) % length turned) = letter_at turned (suc p + k) (omega (arith, long)) in
      let there : letter xs (suc (place_from xs start p) + k) ≡ slice_index xs ((suc (place_from xs start p) + k) % length xs) = letter_at xs (suc (place_from xs start p) + k) (omega (arith, low)) in
      let at = ap (slice_index xs) (after_there p k) in
      let inside : (suc p + k) % length turned < length xs = under (suc p + k) (length turned) (length xs) long some in (
        λ e. there ∙ at ∙ letter_there x ((suc p + k) % length turned) o inside (sym here ∙ e),
        λ e. here ∙ letter_here x ((suc p + k) % length turned) o inside (sym at ∙ sym there ∙ e),
      ) where
        under : (k m n : ℕ) → m ≡ n → 0 < n → k % m < n
        under k m n e l = subst (λ (i : ℕ). k % i < n) (sym e) (mod_under k n l)

  -- a stretch has as many of a letter
  same_count : (x p k : ℕ) → IsOther x → p < length xs → k < length xs → count x (stretch turned p k) ≡ count x (stretch xs (place_from xs start p) k)
  same_count x p zero o l m = refl
  same_count x p (suc k) o l m =
      let low : place_from xs start p < length xs = mod_under (start + p) (length xs) (omega arith) in
      let long : length turned ≡ length xs = t.as_long in
      let before = same_count x p k o l (omega arith) in
      let both = letters_match x p k o l (omega arith) in
      elim (cases_eq (letter turned (suc p + k)) x) [
        | inl e ↦ more_yes x turned p k (omega (arith, long)) e ∙ ap (λ (n : ℕ). n + 1) before ∙ sym (more_yes x xs (place_from xs start p) k (omega (arith, low)) (both.0 e))
        | inr ne ↦ more_no x turned p k (omega (arith, long)) ne ∙ before ∙ sym (more_no x xs (place_from xs start p) k (omega (arith, low)) (λ e. ne (both.1 e)))
      ]

  pair_there : (p q : ℕ) → IsPair turned p q → IsPair xs (place_from xs start p) (place_from xs start q)
  pair_there p q h =
      let long : length turned ≡ length xs = t.as_long in
      let p_in : p < length xs = omega (arith, long, bud_within turned p h.bud) in
      let q_in : q < length xs = omega (arith, long, leaf_within turned q h.leaf) in
      let short = h.in_turn in
      let buds = λ (k : ℕ) (m : k < length xs). same_count BUD p k bud_is_other p_in m in
      let leaves = λ (k : ℕ) (m : k < length xs). same_count LEAF p k leaf_is_other p_in m in
      record {
        bud = letter_there BUD p bud_is_other p_in h.bud;
        leaf = letter_there LEAF q leaf_is_other q_in h.leaf;
        apart = h.apart;
        in_turn = omega (arith, long, short);
        meets = after_there p h.apart ∙ ap (place_from xs start) h.meets;
        equal = sym (buds h.apart (omega (arith, long, short))) ∙ h.equal ∙ leaves h.apart (omega (arith, long, short));
        never_below = λ k le. omega (arith, h.never_below k le, buds k (omega (arith, long, short)), leaves k (omega (arith, long, short)));
      }

-- the place in the ring as it was, of a place as it is, and back
there_and_back : (n start p : ℕ) → start < n → p < n → (steps_to n start 0 + (start + p) % n) % n ≡ p
there_and_back n start p s l =
    let sum : steps_to n start 0 ≡ (0 + (n - start)) % n = steps_to_is n start 0 in
    let whole : 0 + (n - start) + (start + p) ≡ n + p = omega arith in
    add-mod-mod (steps_to n start 0) (start + p) n ∙ ap (λ (k : ℕ). (k + (start + p)) % n) sum ∙ mod-add-mod (0 + (n - start)) n (start + p)
    ∙ ap (λ (k : ℕ). k % n) whole ∙ add-mod_left n p ∙ mod_stays p n l

module _ (word : List ℕ) (leaf : ℕ) (replanted : List ℕ) (tree : IsBlossoming word) (r : IsReplanted word leaf replanted) where
  start_in : r.start < length (contour word)
  start_in = leaf_within (contour word) r.start r.is_start.here

  forth : (p q : ℕ) → IsPair (contour replanted) p q → IsPair (contour word) (place_from (contour word) r.start p) (place_from (contour word) r.start q)
  forth p q h =
      let old = bracketing_exists word tree.in_order in
      pair_there (contour word) old.0 (contour replanted) r.start old.1 start_in r.is_turned p q h

  back : (p q : ℕ) → p < length (contour word) → q < length (contour word) → IsPair (contour word) (place_from (contour word) r.start p) (place_from (contour word) r.start q) → IsPair (contour replanted) p q
  back p q l m h =
      let old = bracketing_exists word tree.in_order in
      let new = bracketing_exists replanted (replanted_alike word leaf replanted tree r).blossoming.in_order in
      let long : length (contour replanted) ≡ length (contour word) = r.is_turned.as_long in
      let turned = turned_back (contour word) old.0 (contour replanted) r.start old.1 (let s = start_in in omega arith) r.is_turned in
      let under : steps_to (length (contour word)) r.start 0 < length (contour replanted) = omega (arith, long, steps_under (length (contour word)) r.start 0 (omega arith)) in
      let pair = pair_there (contour replanted) new.0 (contour word) (steps_to (length (contour word)) r.start 0) new.1 under turned (place_from (contour word) r.start p) (place_from (contour word) r.start q) h in
      subst (λ (k : ℕ). IsPair (contour replanted) p k) (home q m long)
      (subst (λ (k : ℕ). IsPair (contour replanted) k (place_from (contour replanted) (steps_to (length (contour word)) r.start 0) (place_from (contour word) r.start q))) (home p l long) pair) where
        home : (p : ℕ) → p < length (contour word) → length (contour replanted) ≡ length (contour word) → place_from (contour replanted) (steps_to (length (contour word)) r.start 0) (place_from (contour word) r.start p) ≡ p
        home p l long = ap (λ (n : ℕ). (steps_to (length (contour word)) r.start 0 + (r.start + p) % length (contour word)) % n) long ∙ there_and_back (length (contour word)) r.start p start_in l

  free_forth : (p : ℕ) → p < length (contour word) → IsFree (contour replanted) p → IsFree (contour word) (place_from (contour word) r.start p)
  free_forth p l h =
      let old = bracketing_exists word tree.in_order in
      record {
        leaf = letter_there (contour word) old.0 (contour replanted) r.start old.1 start_in r.is_turned LEAF p leaf_is_other l h.leaf;
        alone = λ q pair. unpaired p q l h pair;
      } where
        unpaired : (p q : ℕ) → p < length (contour word) → IsFree (contour replanted) p → IsPair (contour word) q (place_from (contour word) r.start p) → ⊥
        unpaired p q l h pair =
            let inside = bud_within (contour word) q pair.bud in
            let steps = steps_to (length (contour word)) r.start q in
            let lead = steps_lead (length (contour word)) r.start q (let s = start_in in omega arith) inside in
            h.alone (steps_to (length (contour word)) r.start q)
            (back (steps_to (length (contour word)) r.start q) p (steps_under (length (contour word)) r.start q (omega arith)) l
            (subst (λ (k : ℕ). IsPair (contour word) k (place_from (contour word) r.start p)) (sym lead) pair))

  free_back : (p : ℕ) → p < length (contour word) → IsFree (contour word) (place_from (contour word) r.start p) → IsFree (contour replanted) p
  free_back p l h =
      let old = bracketing_exists word tree.in_order in
      record {
        leaf = letter_here (contour word) old.0 (contour replanted) r.start old.1 start_in r.is_turned LEAF p leaf_is_other l h.leaf;
        alone = λ q pair. h.alone (place_from (contour word) r.start q) (forth q p pair);
      }

  plant_home : place_from (contour word) r.start 0 ≡ r.start
  plant_home = let whole : r.start + 0 ≡ r.start = omega arith in ap (λ (k : ℕ). k % length (contour word)) whole ∙ mod_stays r.start (length (contour word)) start_in

pub pairs_turned : PairsAreTurned
pairs_turned word leaf replanted tree r p q l m = (λ h. forth word leaf replanted tree r p q h, λ h. back word leaf replanted tree r p q l m h)

pub free_leaves_turned : FreeLeavesAreTurned
free_leaves_turned word leaf replanted tree r p l = (λ h. free_forth word leaf replanted tree r p l h, λ h. free_back word leaf replanted tree r p l h)

pub free_leaf_balances : FreeLeafBalances
free_leaf_balances word leaf replanted tree r =
    let home = plant_home word leaf replanted tree r in
    let both = free_leaves_turned word leaf replanted tree r 0 (omega arith) in
    (λ h. subst (IsFree (contour word)) home (both.0 h), λ h. both.1 (subst (IsFree (contour word)) (sym home) h))
