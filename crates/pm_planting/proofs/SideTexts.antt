-- Lists with one more letter behind.
use Rattle.std.proofs.Common.{◌≡◌, ℕ, List, [], ◌∷◌, ◌++◌, refl}

-- two lists with one more letter behind are the same
pub record IsSamePush (xs ys : List ℕ) (x y : ℕ) : Type 0 where
  pub lists : xs ≡ ys
  pub last : x ≡ y

-- a list with a letter behind isn't empty
pub no_push : (xs : List ℕ) (y : ℕ) → [] ≡ xs ++ y ∷ [] → ⊥
no_push [] y e = cc
no_push (x ∷ xs) y e = cc

pub same_push : (xs ys : List ℕ) (x y : ℕ) → xs ++ x ∷ [] ≡ ys ++ y ∷ [] → IsSamePush xs ys x y
same_push [] [] x y e = record { lists = refl; last = cc }
same_push [] (b ∷ ys) x y e = absurd (let t : [] ≡ ys ++ y ∷ [] = cc in no_push ys y t)
same_push (a ∷ xs) [] x y e = absurd (let t : [] ≡ xs ++ x ∷ [] = cc in no_push xs x t)
same_push (a ∷ xs) (b ∷ ys) x y e =
    let t : xs ++ x ∷ [] ≡ ys ++ y ∷ [] = cc in
    let h = same_push xs ys x y t in
    let l = h.lists in
    record { lists = cc; last = h.last }
