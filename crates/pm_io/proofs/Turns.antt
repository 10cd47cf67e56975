-- One turn of the reading: what was read so far is a prefix of all, and one more read takes the next bytes.
use Rattle.std.proofs.Common.{◌≡◌, ℕ, ◌+◌, ◌≤◌, List, [], ◌++◌, length, take, drop, Option, None, Some, IfSome, refl, ap, sym, ◌∙◌, arith}
use Rattle.std.proofs.lemmas.List.{append-nil, take-append-drop, drop-take, take-take, length-drop}
use Rattle.pm_io.specs.Bytes.{without, TakesPrefix}

-- these bytes are the first of all, and so many
pub record IsPrefix (bytes : List ℕ) (count : ℕ) (all : List ℕ) : Type 0 where
  pub within : count ≤ length all
  pub prefix : bytes ≡ take count all

-- the first n, and the next m
pub take-add : (n m : ℕ) (xs : List ℕ) → take n xs ++ take m (drop n xs) ≡ take (n + m) xs
take-add n m xs =
    let shorter : n ≤ n + m = omega arith in
    let prefix = take-take n (n + m) xs shorter in
    let back = drop-take n m xs in
    let both = take-append-drop n (take (n + m) xs) in
    rw (prefix, back) at both

-- one more read
pub prefix-more : (old : Option (List ℕ)) (bytes : List ℕ) (n : ℕ) (chunk : List ℕ) (count : ℕ) → IfSome old (IsPrefix bytes n) → IfSome (without n old) (λ rest. TakesPrefix count rest chunk) → IfSome old (IsPrefix (bytes ++ take count chunk) (n + count))
prefix-more None bytes n chunk count so_far read = tt
prefix-more (Some all) bytes n chunk count so_far read =
    let has : count ≤ length (drop n all) = read.within in
    let rest = length-drop n all in
    let before : n ≤ length all = so_far.within in
    record {
      within = omega arith;
      prefix = rw (so_far.prefix, read.prefix) (take-add n count all);
    }

-- the end
pub prefix-all : (old : Option (List ℕ)) (bytes : List ℕ) (n : ℕ) (chunk : List ℕ) (now : Option (List ℕ)) → IfSome old (IsPrefix bytes n) → IfSome (without n old) (λ rest. TakesPrefix 0 rest chunk) → now ≡ without 0 (without n old) → IfSome old (λ all. (bytes ≡ all) × (now ≡ Some []))
prefix-all None bytes n chunk now so_far read after = tt
prefix-all (Some all) bytes n chunk now so_far read after =
    let none : drop n all ≡ [] = read.end refl in
    let both = take-append-drop n all in
    let whole : take n all ++ [] ≡ all = rw none at both in
    (so_far.prefix ∙ sym (append-nil (take n all)) ∙ whole, after ∙ ap Some none)
