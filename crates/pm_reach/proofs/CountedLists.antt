-- The valid lists, taken one after another, with their maps counted.
use Rattle.std.proofs.Common.{◌≡◌, ℕ, suc, ◌+◌, ◌<◌, ◌≤◌, Bool, true, false, List, [], ◌∷◌, ◌++◌, length, take, drop, replicate, append-nil, append_assoc, length-append, ap, sym, ◌∙◌, subst, refl, arith}
use Rattle.std.specs.List.{AllZip}
use Rattle.std.proofs.lemmas.List.{drop_all, get_or-replicate, length-replicate, take_all}
use Rattle.std.proofs.lemmas.Slice.Zip.{all_zipped_more}
use Rattle.pm_lists.specs.Valid.{AreBounds, IsValidList}
use Rattle.pm_map.specs.Rotation.{RotationSystem}
use Rattle.pm_reach.specs.Census.{GivesMap, IsCensus, IsLastList, IsNextList, number_of, product, raised, valid_lists}
use Rattle.pm_reach.specs.steps.Counting.{IsCounting, lists_left}
use Rattle.pm_reach.specs.steps.Walking.{lists_after}
use Rattle.pm_reach.proofs.CountedMaps.{number-numbers, length-numbers, numbers-push}
use Rattle.pm_reach.proofs.ListWalk.{IsValidList-next, length-valid_lists, lists_after-last, lists_after-next, valid_lists-first}

-- no list is done yet
pub IsCounting-begins : (bounds : List ℕ) (samples : List ℕ → RotationSystem → List ℕ → Type 0) → AreBounds bounds
    → IsCounting bounds samples true (replicate (length bounds) 0) []
IsCounting-begins bounds samples are = record {
  done = [];
  maps = [];
  whole = sym (valid_lists-first bounds are.each);
  given = tt;
  counted = refl;
  valid = λ _. record {
    as_long = length-replicate {A = ℕ} (length bounds) 0;
    below = λ place within. omega (arith, get_or-replicate {A = ℕ} (length bounds) place 0 0 (omega (arith, length-replicate {A = ℕ} (length bounds) 0)), are.each place 0 (omega (arith, length-replicate {A = ℕ} (length bounds) 0)));
  };
}

-- what is left after a list
pub lists_left-next : (bounds choices next : List ℕ) (more : Bool) → AreBounds bounds → IsValidList choices bounds
    → (more ≡ true → IsNextList bounds choices next) → (more ≡ false → IsLastList bounds choices)
    → lists_left more bounds next ≡ lists_after bounds choices
lists_left-next bounds choices next true are valid n l =
    sym (lists_after-next bounds choices next (n refl).place are.each valid.as_long (n refl).there)
lists_left-next bounds choices next false are valid n l = sym (lists_after-last bounds choices valid.as_long (l refl))

-- one list more
pub IsCounting-more : (bounds : List ℕ) (samples : List ℕ → RotationSystem → List ℕ → Type 0) (choices next : List ℕ) (more : Bool)
    (entries : List (RotationSystem × ℕ)) (map : RotationSystem) (residue : List ℕ) → AreBounds bounds
    → IsCounting bounds samples true choices entries → samples choices map residue
    → (more ≡ true → IsNextList bounds choices next) → (more ≡ false → IsLastList bounds choices)
    → IsCounting bounds samples more next (raised map entries)
IsCounting-more bounds samples choices next more entries map residue are c given n l = record {
  done = c.done ++ choices ∷ [];
  maps = c.maps ++ map ∷ [];
  whole = ap (λ lists. (c.done ++ choices ∷ []) ++ lists) (lists_left-next bounds choices next more are (c.valid refl) n l)
      ∙ append_assoc c.done (choices ∷ []) (lists_after bounds choices) ∙ c.whole;
  given = all_zipped_more (GivesMap samples) c.done c.maps choices map c.given (record { residue = residue; given = given });
  counted = ap (λ es. raised map es) c.counted ∙ sym (numbers-push c.maps map);
  valid = λ is. IsValidList-next bounds choices next (n is).place (c.valid refl) (n is).there;
}

-- lists and their maps are as many
pub as_many : (samples : List ℕ → RotationSystem → List ℕ → Type 0) (lists : List (List ℕ)) (maps : List RotationSystem)
    → AllZip (GivesMap samples) lists maps → length maps ≡ length lists
as_many samples [] [] zip = refl
as_many samples [] (map ∷ maps) zip = absurd zip
as_many samples (list ∷ lists) [] zip = absurd zip
as_many samples (list ∷ lists) (map ∷ maps) zip = ap suc (as_many samples lists maps zip.1)

-- a number is below the product of the bounds while a list is left
pub IsCounting-few : (bounds : List ℕ) (samples : List ℕ → RotationSystem → List ℕ → Type 0) (choices : List ℕ) (entries : List (RotationSystem × ℕ)) (map : RotationSystem)
    → IsCounting bounds samples true choices entries → number_of map entries < product bounds
IsCounting-few bounds samples choices entries map c =
    let most : number_of map entries ≤ length c.maps = subst (λ es. number_of map es ≤ length c.maps) (sym c.counted) (number-numbers map c.maps) in
    let all : length c.done + length (choices ∷ lists_after bounds choices) ≡ product bounds =
    sym (length-append c.done (choices ∷ lists_after bounds choices)) ∙ ap length c.whole ∙ length-valid_lists bounds in
    omega (arith, most, all, as_many samples c.done c.maps c.given)

-- at the end there is the census
pub IsCounting-ends : (bounds : List ℕ) (samples : List ℕ → RotationSystem → List ℕ → Type 0) (choices : List ℕ) (entries : List (RotationSystem × ℕ))
    → IsCounting bounds samples false choices entries → IsCensus bounds samples entries
IsCounting-ends bounds samples choices entries c = record {
  maps = c.maps;
  given = subst (λ lists. AllZip (GivesMap samples) lists c.maps) (sym (append-nil c.done) ∙ c.whole) c.given;
  counted = c.counted;
}

-- a census has no more entries than the product of the bounds
pub IsCensus-few : (bounds : List ℕ) (samples : List ℕ → RotationSystem → List ℕ → Type 0) (entries : List (RotationSystem × ℕ))
    → IsCensus bounds samples entries → length entries ≤ product bounds
IsCensus-few bounds samples entries c =
    omega (arith, ap length c.counted, length-numbers c.maps, as_many samples (valid_lists bounds) c.maps c.given, length-valid_lists bounds)

-- fewer lists are left
pub lists_left-smaller : (bounds choices next written : List ℕ) (was more : Bool) → AreBounds bounds → IsValidList choices bounds → was ≡ true → written ≡ next
    → (more ≡ true → IsNextList bounds choices next) → (more ≡ false → IsLastList bounds choices)
    → length (lists_left more bounds written) < length (lists_left was bounds choices)
lists_left-smaller bounds choices next written was more are valid is same n l =
    let left : length (lists_left more bounds next) ≡ length (lists_after bounds choices) = ap length (lists_left-next bounds choices next more are valid n l) in
    let after : length (lists_left more bounds written) ≡ length (lists_left more bounds next) = ap (λ list. length (lists_left more bounds list)) same in
    subst (λ b. length (lists_left more bounds written) < length (lists_left b bounds choices)) (sym is) (omega (arith, left, after))

-- a list is written over one of its length
pub written_over : (list old : List ℕ) (size : ℕ) → length list ≡ length old → size ≡ length old → take size (list ++ drop (length list) old) ≡ list
written_over list old size as_long is =
    ap (λ rest. take size (list ++ rest)) (drop_all (length list) old (omega arith)) ∙ ap (take size) (append-nil list) ∙ take_all size list (omega arith)
