-- The darts of the whole tree as darts of the tree, and the other way round.
use Rattle.std.proofs.Common.{◌≡◌, ◌≢◌, ℕ, zero, suc, ◌+◌, ◌-◌, ◌≤◌, Bool, cond, eqb, ap, arith, eq-eqb, ne_eqb}
use Rattle.pm_triclose.specs.Closure.{Dart, a_to_b, at_place, b_to_a, twin_of}

-- behind the last place of the tree stand the darts between the new vertices, and the twin of the last stem
abbrev pub place_in_tree : ℕ → ℕ → ℕ → Dart
place_in_tree last p zero = at_place p
place_in_tree last p (suc zero) = b_to_a
place_in_tree last p (suc (suc zero)) = a_to_b
place_in_tree last p (suc (suc (suc more))) = twin_of last

abbrev pub in_tree : ℕ → Dart → Dart
in_tree last (at_place p) = place_in_tree last p (p - last)
in_tree last (twin_of x) = twin_of x
in_tree last a_to_b = a_to_b
in_tree last b_to_a = b_to_a

abbrev pub in_whole : ℕ → Dart → Dart
in_whole last (at_place p) = at_place p
in_whole last (twin_of x) = cond {A = Dart} (eqb x last) (at_place (last + 3)) (twin_of x)
in_whole last a_to_b = at_place (last + 2)
in_whole last b_to_a = at_place (last + 1)

pub old_place : (last p : ℕ) → p ≤ last → in_tree last (at_place p) ≡ at_place p
old_place last p l = let e : p - last ≡ 0 = omega arith in ap (place_in_tree last p) e

pub place_b : (last p : ℕ) → p ≡ last + 1 → in_tree last (at_place p) ≡ b_to_a
place_b last p h = let e : p - last ≡ 1 = omega (arith, h) in ap (place_in_tree last p) e

pub place_a : (last p : ℕ) → p ≡ last + 2 → in_tree last (at_place p) ≡ a_to_b
place_a last p h = let e : p - last ≡ 2 = omega (arith, h) in ap (place_in_tree last p) e

pub place_last : (last p : ℕ) → p ≡ last + 3 → in_tree last (at_place p) ≡ twin_of last
place_last last p h = let e : p - last ≡ 3 = omega (arith, h) in ap (place_in_tree last p) e

pub old_twin : (last x : ℕ) → x ≢ last → in_whole last (twin_of x) ≡ twin_of x
old_twin last x ne = ap (λ (b : Bool). cond {A = Dart} b (at_place (last + 3)) (twin_of x)) (ne_eqb x last ne)

pub last_twin : (last x : ℕ) → x ≡ last → in_whole last (twin_of x) ≡ at_place (last + 3)
last_twin last x e = ap (λ (b : Bool). cond {A = Dart} b (at_place (last + 3)) (twin_of x)) (eq-eqb x last e)
