-- Which degrees are taken: a degree has a vertex where it has a dart. The darts at vertices below a degree.
use Rattle.std.proofs.Common.{◌≡◌, ℕ, zero, suc, ◌+◌, ◌*◌, ◌<◌, ◌≤◌, ◌&&◌, Bool, true, false, inl, inr, nat_eq, ltb, refl, sym, ◌∙◌, arith}
use Rattle.std.proofs.lemmas.Bool.{cases_eq, cases_lt, eq-eqb, ne_eqb, eqb-true, lt-ltb, le-ltb}
use Rattle.pm_perm.specs.Count.{count_below}
use Rattle.pm_perm.specs.Cycles.{leader}
use Rattle.pm_perm.proofs.Counts.{count_below-bound, count_below-split, one_passes, some_pass}
use Rattle.pm_map.specs.Structure.{Structure, IsStructure}
use Rattle.pm_map.specs.Classes.{degree_of, vertices_of_degree}
use Rattle.pm_map.proofs.TableLemmas.{with_darts, times_vertices}

-- the degree of a dart's vertex is taken
pub dart_takes : (s : Structure) (d : ℕ) → IsStructure s → d < s.darts → 0 < vertices_of_degree s (degree_of s d)
dart_takes s d is less =
    let some = some_pass (λ e. nat_eq (degree_of s e) (degree_of s d)) d s.darts less (eq-eqb (degree_of s d) (degree_of s d) refl) in
    let times = times_vertices s (degree_of s d) is in
    positive (degree_of s d) (vertices_of_degree s (degree_of s d)) (omega (arith, some, times)) where
      positive : (a b : ℕ) → 0 < a * b → 0 < b
      positive a zero h = absurd (omega arith)
      positive a (suc b) h = omega arith

-- and a degree that is taken is that of a dart's vertex
pub dart_of_degree : (s : Structure) (degree : ℕ) → 0 < s.darts → 0 < vertices_of_degree s degree → (d : ℕ) × (d < s.darts) × (degree_of s d ≡ degree)
dart_of_degree s degree darts some =
    let same = with_darts s degree (λ none. absurd (omega (arith, none, darts))) in
    let found = one_passes (λ d. nat_eq (leader s.darts s.next d) d && nat_eq (degree_of s d) degree) s.darts (omega (arith, same, some)) in
    (found.0, found.1, eqb-true (degree_of s found.0) degree (and_second (nat_eq (leader s.darts s.next found.0) found.0) (nat_eq (degree_of s found.0) degree) found.2)) where
      and_second : (a b : Bool) → (a && b) ≡ true → b ≡ true
      and_second true b e = e
      and_second false b e = absurd cc

-- the darts at vertices of a degree below the bound
pub darts_below : Structure → ℕ → ℕ
darts_below s degree = count_below (λ d. ltb (degree_of s d) degree) s.darts

pub darts_below-more : (s : Structure) (degree : ℕ) → IsStructure s → darts_below s (suc degree) ≡ darts_below s degree + degree * vertices_of_degree s degree
unfolding darts_below
darts_below-more s degree is =
    let times = times_vertices s degree is in
    let split = count_below-split (λ d. ltb (degree_of s d) degree) (λ d. nat_eq (degree_of s d) degree) (λ d. ltb (degree_of s d) (suc degree)) s.darts (λ k less. elim (cases_lt (degree_of s k) degree) [
      | inl low ↦ inl (lt-ltb (degree_of s k) degree low ∙ sym (lt-ltb (degree_of s k) (suc degree) (omega arith)), ne_eqb (degree_of s k) degree (λ e. absurd (omega (arith, low, e))))
      | inr high ↦ elim (cases_eq (degree_of s k) degree) [
        | inl same ↦ inr (le-ltb (degree_of s k) degree high, eq-eqb (degree_of s k) degree same ∙ sym (lt-ltb (degree_of s k) (suc degree) (omega (arith, same))))
        | inr other ↦ inl (le-ltb (degree_of s k) degree high ∙ sym (le-ltb (degree_of s k) (suc degree) (omega (arith, high, other))), ne_eqb (degree_of s k) degree other)
      ]
    ]) in
    omega (arith, times, split)

pub darts_below-bound : (s : Structure) (degree : ℕ) → darts_below s degree ≤ s.darts
unfolding darts_below
darts_below-bound s degree = count_below-bound (λ d. ltb (degree_of s d) degree) s.darts
