-- A sum over the nodes of a ring of letters, each by its degree and its buds. The ring's first level is a node of which
-- each letter is an entry.
use Rattle.std.proofs.Common.{◌≡◌, ℕ, suc, ◌+◌, ◌==◌, cond, List, [], ◌∷◌, ◌++◌, length, refl, ap, ap₂, sym, ◌∙◌, arith, eq-eqb, ne_eqb, length-append}
use Rattle.std.proofs.lemmas.List.{append-nil}
use Rattle.pm_trees.specs.declared.letters.TheConstants.{BUD}
use Rattle.pm_brackets.specs.declared.letters.TheConstants.{OPEN, CLOSE}
use Rattle.pm_trees.specs.Node.{own_letters}
use Rattle.pm_brackets.proofs.Tally.{tally, tally-nil, tally_no, tally-append}
use Rattle.pm_brackets.specs.Word.{IsOther}
use Rattle.pm_trees.proofs.Own.{other_here, other_above, open_above, close_above}
use Rattle.pm_brackets.proofs.Dyck.{IsDyck, bracket_then}
use Rattle.pm_brackets.proofs.Dyck.IsDyck.{empty, letter, bracket}

-- what stands in brackets is no letter of the level around them
own_skip : (d : ℕ) (xs zs : List ℕ) → IsDyck xs → own_letters (suc d) (xs ++ zs) ≡ own_letters (suc d) zs
own_skip d _ zs empty = refl
own_skip d _ zs (letter x xs o a) = other_above d x (xs ++ zs) o ∙ own_skip d xs zs a
own_skip d _ zs (bracket xs ys a b) =
    ap (own_letters (suc d)) (bracket_then xs ys zs) ∙ open_above d (xs ++ CLOSE ∷ (ys ++ zs)) ∙ own_skip (suc d) xs (CLOSE ∷ (ys ++ zs)) a
    ∙ close_above (suc d) (ys ++ zs) ∙ own_skip d ys zs b

pub own_bracket : (xs zs : List ℕ) → IsDyck xs → own_letters 0 (OPEN ∷ (xs ++ CLOSE ∷ zs)) ≡ OPEN ∷ own_letters 0 zs
own_bracket xs zs a = ap (λ (ls : List ℕ). OPEN ∷ ls) (own_skip 0 xs (CLOSE ∷ zs) a ∙ close_above 0 zs)

own_join : (xs zs : List ℕ) → IsDyck xs → own_letters 0 (xs ++ zs) ≡ own_letters 0 xs ++ own_letters 0 zs
own_join _ zs empty = refl
own_join _ zs (letter x xs o a) =
    other_here x (xs ++ zs) o ∙ ap (λ (ls : List ℕ). x ∷ ls) (own_join xs zs a) ∙ sym (ap (λ (ls : List ℕ). ls ++ own_letters 0 zs) (other_here x xs o))
own_join _ zs (bracket xs ys a b) =
    ap (own_letters 0) (bracket_then xs ys zs) ∙ own_bracket xs (ys ++ zs) a ∙ ap (λ (ls : List ℕ). OPEN ∷ ls) (own_join ys zs b)
    ∙ sym (ap (λ (ls : List ℕ). ls ++ own_letters 0 zs) (own_bracket xs ys a))

own_closed : (xs zs : List ℕ) → IsDyck xs → own_letters 0 (xs ++ CLOSE ∷ zs) ≡ own_letters 0 xs
own_closed xs zs a = own_join xs (CLOSE ∷ zs) a ∙ append-nil (own_letters 0 xs)

-- the value at a node that has these entries and so many more for its head
pub value : (ℕ → ℕ → ℕ) → ℕ → List ℕ → ℕ
value f more xs = f (more + length (own_letters 0 xs)) (tally BUD (own_letters 0 xs))

pub value_is : (f : ℕ → ℕ → ℕ) (more : ℕ) (xs : List ℕ) → value f more xs ≡ f (more + length (own_letters 0 xs)) (tally BUD (own_letters 0 xs))
unfolding value
value_is f more xs = refl

-- the sum over the nodes whose `(` stands in the text
pub inner : (ℕ → ℕ → ℕ) → List ℕ → ℕ
inner f [] = 0
inner f (x ∷ xs) = cond (x == OPEN) (value f 1 xs) 0 + inner f xs

pub inner-nil : (f : ℕ → ℕ → ℕ) → inner f [] ≡ 0
unfolding inner
inner-nil f = refl

pub inner_open : (f : ℕ → ℕ → ℕ) (x : ℕ) (xs : List ℕ) → x ≡ OPEN → inner f (x ∷ xs) ≡ value f 1 xs + inner f xs
unfolding inner
inner_open f x xs e = rw (eq-eqb x OPEN e) refl

pub inner_other : (f : ℕ → ℕ → ℕ) (x : ℕ) (xs : List ℕ) → (x ≡ OPEN → ⊥) → inner f (x ∷ xs) ≡ inner f xs
unfolding inner
inner_other f x xs n = let e : cond {A = ℕ} (x == OPEN) (value f 1 xs) 0 ≡ 0 = rw (ne_eqb x OPEN n) refl in omega (arith, e)

value_closed : (f : ℕ → ℕ → ℕ) (more : ℕ) (xs zs : List ℕ) → IsDyck xs → value f more (xs ++ CLOSE ∷ zs) ≡ value f more xs
unfolding value
value_closed f more xs zs a = ap (λ (ls : List ℕ). f (more + length ls) (tally BUD ls)) (own_closed xs zs a)

inner_bracket : (f : ℕ → ℕ → ℕ) (xs zs : List ℕ) → IsDyck xs → inner f (xs ++ CLOSE ∷ zs) ≡ inner f xs + inner f zs → inner f (OPEN ∷ (xs ++ CLOSE ∷ zs)) ≡ value f 1 xs + inner f xs + inner f zs
inner_bracket f xs zs a h =
    let b = inner_open f OPEN (xs ++ CLOSE ∷ zs) refl in
    let c = value_closed f 1 xs zs a in
    omega (arith, b, c, h)

inner_join : (f : ℕ → ℕ → ℕ) (xs zs : List ℕ) → IsDyck xs → inner f (xs ++ zs) ≡ inner f xs + inner f zs
inner_join f _ zs empty = let a = inner-nil f in omega (arith, a)
inner_join f _ zs (letter x xs o a) =
    let h = inner_join f xs zs a in
    let b = inner_other f x (xs ++ zs) o.not_open in
    let c = inner_other f x xs o.not_open in
    omega (arith, h, b, c)
inner_join f _ zs (bracket xs ys a b) =
    let close = λ (ws : List ℕ). inner_join f xs (CLOSE ∷ ws) a in
    let skip = λ (ws : List ℕ). inner_other f CLOSE ws (λ e. omega arith) in
    let g = close (ys ++ zs) in
    let h = close ys in
    let i = skip (ys ++ zs) in
    let j = skip ys in
    let k = inner_bracket f xs (ys ++ zs) a (omega (arith, g, i)) in
    let l = inner_bracket f xs ys a (omega (arith, h, j)) in
    let m = inner_join f ys zs b in
    let n = ap (inner f) (bracket_then xs ys zs) in
    omega (arith, k, l, m, n)

pub inner_of_bracket : (f : ℕ → ℕ → ℕ) (xs ys : List ℕ) → IsDyck xs → inner f (OPEN ∷ (xs ++ CLOSE ∷ ys)) ≡ value f 1 xs + inner f xs + inner f ys
inner_of_bracket f xs ys a =
    let j = inner_join f xs (CLOSE ∷ ys) a in
    let k = inner_other f CLOSE ys (λ e. omega arith) in
    inner_bracket f xs ys a (omega (arith, j, k))

-- the sum over all nodes
pub weight : (ℕ → ℕ → ℕ) → List ℕ → ℕ
weight f xs = value f 0 xs + inner f xs

pub weight_is : (f : ℕ → ℕ → ℕ) (xs : List ℕ) → weight f xs ≡ value f 0 xs + inner f xs
unfolding weight
weight_is f xs = refl

-- a letter that comes last in place of first
same_value : (f : ℕ → ℕ → ℕ) (more : ℕ) (xs ys : List ℕ) (n : ℕ) → more + length (own_letters 0 xs) ≡ n + length (own_letters 0 ys) → tally BUD (own_letters 0 xs) ≡ tally BUD (own_letters 0 ys) → value f more xs ≡ value f n ys
unfolding value
same_value f more xs ys n a b = ap₂ f a b

pub weight_letter : (f : ℕ → ℕ → ℕ) (x : ℕ) (xs : List ℕ) → IsOther x → IsDyck xs → weight f (xs ++ x ∷ []) ≡ weight f (x ∷ xs)
unfolding weight
weight_letter f x xs o a =
    let last : own_letters 0 (xs ++ x ∷ []) ≡ own_letters 0 xs ++ x ∷ [] = own_join xs (x ∷ []) a ∙ ap (λ (ls : List ℕ). own_letters 0 xs ++ ls) (other_here x [] o) in
    let first : own_letters 0 (x ∷ xs) ≡ x ∷ own_letters 0 xs = other_here x xs o in
    let l1 = ap length last in
    let l2 = ap length first in
    let l3 = length-append (own_letters 0 xs) (x ∷ []) in
    let t1 = ap (tally BUD) last in
    let t2 = ap (tally BUD) first in
    let t3 = tally-append BUD (own_letters 0 xs) (x ∷ []) in
    let t4 = tally-append BUD (x ∷ []) (own_letters 0 xs) in
    let v = same_value f 0 (xs ++ x ∷ []) (x ∷ xs) 0 (omega (arith, l1, l2, l3)) (omega (arith, t1, t2, t3, t4)) in
    let b = inner_join f xs (x ∷ []) a in
    let c = inner_other f x [] o.not_open in
    let d = inner-nil f in
    let e = inner_other f x xs o.not_open in
    omega (arith, v, b, c, d, e)

-- the plant goes across an edge
pub weight_bracket : (f : ℕ → ℕ → ℕ) (xs ys : List ℕ) → IsDyck xs → IsDyck ys → weight f (xs ++ OPEN ∷ (ys ++ CLOSE ∷ [])) ≡ weight f (OPEN ∷ (xs ++ CLOSE ∷ ys))
unfolding weight
weight_bracket f xs ys a b =
    let new : own_letters 0 (xs ++ OPEN ∷ (ys ++ CLOSE ∷ [])) ≡ own_letters 0 xs ++ OPEN ∷ [] =
    own_join xs (OPEN ∷ (ys ++ CLOSE ∷ [])) a ∙ ap (λ (ls : List ℕ). own_letters 0 xs ++ ls) (own_bracket ys [] b) in
    let old : own_letters 0 (OPEN ∷ (xs ++ CLOSE ∷ ys)) ≡ OPEN ∷ own_letters 0 ys = own_bracket xs ys a in
    let l1 = ap length new in
    let l2 = ap length old in
    let l3 = length-append (own_letters 0 xs) (OPEN ∷ []) in
    let t1 = ap (tally BUD) new in
    let t2 = ap (tally BUD) old in
    let t3 = tally-append BUD (own_letters 0 xs) (OPEN ∷ []) in
    let t4 = tally_no BUD OPEN [] (λ e. omega arith) in
    let t5 = tally_no BUD OPEN (own_letters 0 ys) (λ e. omega arith) in
    let t6 = tally-nil BUD in
    let child = same_value f 0 (xs ++ OPEN ∷ (ys ++ CLOSE ∷ [])) xs 1 (omega (arith, l1, l3)) (omega (arith, t1, t3, t4, t6)) in
    let root = same_value f 0 (OPEN ∷ (xs ++ CLOSE ∷ ys)) ys 1 (omega (arith, l2)) (omega (arith, t2, t5)) in
    let j1 = inner_join f xs (OPEN ∷ (ys ++ CLOSE ∷ [])) a in
    let k1 = inner_join f ys (CLOSE ∷ []) b in
    let k2 = inner_other f CLOSE [] (λ e. omega arith) in
    let k3 = inner-nil f in
    let j2 = inner_bracket f ys [] b (omega (arith, k1, k2)) in
    let m1 = inner_join f xs (CLOSE ∷ ys) a in
    let m2 = inner_other f CLOSE ys (λ e. omega arith) in
    let m3 = inner_bracket f xs ys a (omega (arith, m1, m2)) in
    omega (arith, child, root, j1, j2, k3, m3)
