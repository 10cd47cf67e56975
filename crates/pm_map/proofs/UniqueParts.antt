-- There is one answer to a rotation and a root.
use Rattle.std.proofs.Common.{◌≡◌, ℕ, ◌*◌, ◌≤◌, List, length, get_or, ℤ, Result, Ok, Err, refl, ap, sym, ◌∙◌, arith, Contains}
use Rattle.std.proofs.lemmas.Bool.{false≢true}
use Rattle.pm_perm.proofs.Contained.{contains_at}
use Rattle.pm_limits.specs.declared.TheConstants.{MAX_EDGES}
use Rattle.pm_perm.specs.Permutation.{IsPermutationList}
use Rattle.pm_perm.proofs.LeastLemmas.{least_is_unique}
use Rattle.pm_perm.proofs.Permutations.{reached}
use Rattle.pm_map.specs.declared.rooted_map.RootedMap.{RootedMap}
use Rattle.pm_map.specs.declared.refusal.MapRefusal.{MapRefusal}
use Rattle.pm_map.specs.declared.refusal.MapRefusal.TheVariants.{Memory, TooMany, NotPermutation, NotConnected, Genus}
use Rattle.pm_map.specs.Structure.{Structure, IsConnected}
use Rattle.pm_map.specs.Missing.{IsLeastMissing}
use Rattle.pm_map.specs.Reached.{IsReached, IsUnreached, IsLeastUnreached}
use Rattle.pm_map.specs.Rotation.{structure_of}
use Rattle.pm_map.specs.Parts.{HasTooMany, IsNoPermutation, IsNotConnected, HasGenus, IsMapAnswer, HasOneMapAnswer}

-- a permutation leaves out no number
pub permutation_is_whole : (values : List ℕ) (n : ℕ) → IsPermutationList values → IsLeastMissing values n → ⊥
permutation_is_whole values n permutes missing =
    let found = reached (λ k. get_or values k 0) (length values) n permutes missing.within in
    missing.breaks (contains_at _ _ found.from found.below found.value)

-- no dart is both reached and not
pub reached_or_unreached : (s : Structure) (d : ℕ) → IsReached s d → IsUnreached s d → ⊥
reached_or_unreached s d reached unreached = false≢true (sym unreached.apart ∙ reached unreached.holds unreached.root unreached.closed)

-- a connected structure has no dart that isn't reached
pub connected_reaches : (s : Structure) (d : ℕ) → IsConnected s → IsLeastUnreached s d → ⊥
connected_reaches s d connected least =
    reached_or_unreached s d (λ holds root closed. connected holds root closed d least.within) least.breaks

-- a list leaves out one least number
pub least_missing_is_unique : (values : List ℕ) (a b : ℕ) → IsLeastMissing values a → IsLeastMissing values b → a ≡ b
least_missing_is_unique values = least_is_unique (length values) (Contains values) (λ n. Contains values n → ⊥) (λ n stands not. not stands)

-- a structure has one least dart that isn't reached
pub least_unreached_is_unique : (s : Structure) (a b : ℕ) → IsLeastUnreached s a → IsLeastUnreached s b → a ≡ b
least_unreached_is_unique s = least_is_unique s.darts (IsReached s) (IsUnreached s) (reached_or_unreached s)

not_few : (sigma : List ℕ) (edges : ℕ) → HasTooMany sigma edges → length sigma ≤ 2 * MAX_EDGES → ⊥
not_few sigma edges h few = let counted = h.counted in let many = h.many in omega arith

-- the answers in the order of the rules, each with the rules that hold before it
ok_only : (sigma : List ℕ) (root : ℕ) (map : RootedMap) (second : Result RootedMap MapRefusal) → IsMapAnswer sigma root (Ok map)
    → IsMapAnswer sigma root second → (second ≡ Err Memory → ⊥) → Ok map ≡ second
ok_only sigma root map (Ok other) h a n = ap Ok (h.0 ∙ sym a.0)
ok_only sigma root map (Err (TooMany edges)) h a n = absurd (not_few sigma edges a h.1.few)
ok_only sigma root map (Err (NotPermutation d)) h a n = absurd (permutation_is_whole sigma d h.1.structure.rotation a.missing)
ok_only sigma root map (Err (NotConnected d)) h a n = absurd (connected_reaches (structure_of (record { sigma = sigma; root = root })) d h.1.connected a.unreached)
ok_only sigma root map (Err (Genus e)) h a n = absurd (a.other h.1.euler)
ok_only sigma root map (Err Memory) h a n = absurd (n refl)

many_only : (sigma : List ℕ) (root edges : ℕ) (second : Result RootedMap MapRefusal) → HasTooMany sigma edges
    → IsMapAnswer sigma root second → (second ≡ Err Memory → ⊥) → Err (TooMany edges) ≡ second
many_only sigma root edges (Ok other) h a n = absurd (not_few sigma edges h a.1.few)
many_only sigma root edges (Err (TooMany k)) h a n = ap (λ (j : ℕ). Err (TooMany j)) (let x = h.counted in let y = a.counted in omega arith)
many_only sigma root edges (Err (NotPermutation d)) h a n = absurd (not_few sigma edges h a.few)
many_only sigma root edges (Err (NotConnected d)) h a n = absurd (not_few sigma edges h a.few)
many_only sigma root edges (Err (Genus e)) h a n = absurd (not_few sigma edges h a.few)
many_only sigma root edges (Err Memory) h a n = absurd (n refl)

permutation_only : (sigma : List ℕ) (root dart : ℕ) (second : Result RootedMap MapRefusal) → IsNoPermutation sigma dart
    → IsMapAnswer sigma root second → (second ≡ Err Memory → ⊥) → Err (NotPermutation dart) ≡ second
permutation_only sigma root dart (Ok other) h a n = absurd (permutation_is_whole sigma dart a.1.structure.rotation h.missing)
permutation_only sigma root dart (Err (TooMany k)) h a n = absurd (not_few sigma k a h.few)
permutation_only sigma root dart (Err (NotPermutation d)) h a n = ap (λ (j : ℕ). Err (NotPermutation j)) (least_missing_is_unique sigma dart d h.missing a.missing)
permutation_only sigma root dart (Err (NotConnected d)) h a n = absurd (permutation_is_whole sigma dart a.permutes h.missing)
permutation_only sigma root dart (Err (Genus e)) h a n = absurd (permutation_is_whole sigma dart a.permutes h.missing)
permutation_only sigma root dart (Err Memory) h a n = absurd (n refl)

connected_only : (sigma : List ℕ) (root dart : ℕ) (second : Result RootedMap MapRefusal) → IsNotConnected sigma root dart
    → IsMapAnswer sigma root second → (second ≡ Err Memory → ⊥) → Err (NotConnected dart) ≡ second
connected_only sigma root dart (Ok other) h a n = absurd (connected_reaches (structure_of (record { sigma = sigma; root = root })) dart a.1.connected h.unreached)
connected_only sigma root dart (Err (TooMany k)) h a n = absurd (not_few sigma k a h.few)
connected_only sigma root dart (Err (NotPermutation d)) h a n = absurd (permutation_is_whole sigma d h.permutes a.missing)
connected_only sigma root dart (Err (NotConnected d)) h a n =
    ap (λ (j : ℕ). Err (NotConnected j)) (least_unreached_is_unique (structure_of (record { sigma = sigma; root = root })) dart d h.unreached a.unreached)
connected_only sigma root dart (Err (Genus e)) h a n = absurd (connected_reaches (structure_of (record { sigma = sigma; root = root })) dart a.connected h.unreached)
connected_only sigma root dart (Err Memory) h a n = absurd (n refl)

genus_only : (sigma : List ℕ) (root : ℕ) (euler : ℤ) (second : Result RootedMap MapRefusal) → HasGenus sigma root euler
    → IsMapAnswer sigma root second → (second ≡ Err Memory → ⊥) → Err (Genus euler) ≡ second
genus_only sigma root euler (Ok other) h a n = absurd (h.other a.1.euler)
genus_only sigma root euler (Err (TooMany k)) h a n = absurd (not_few sigma k a h.few)
genus_only sigma root euler (Err (NotPermutation d)) h a n = absurd (permutation_is_whole sigma d h.permutes a.missing)
genus_only sigma root euler (Err (NotConnected d)) h a n = absurd (connected_reaches (structure_of (record { sigma = sigma; root = root })) d h.connected a.unreached)
genus_only sigma root euler (Err (Genus e)) h a n = ap (λ (j : ℤ). Err (Genus j)) (h.number ∙ sym a.number)
genus_only sigma root euler (Err Memory) h a n = absurd (n refl)

pub one_map_answer : HasOneMapAnswer
one_map_answer sigma root (Ok map) second a b n m = ok_only sigma root map second a b m
one_map_answer sigma root (Err (TooMany k)) second a b n m = many_only sigma root k second a b m
one_map_answer sigma root (Err (NotPermutation d)) second a b n m = permutation_only sigma root d second a b m
one_map_answer sigma root (Err (NotConnected d)) second a b n m = connected_only sigma root d second a b m
one_map_answer sigma root (Err (Genus e)) second a b n m = genus_only sigma root e second a b m
one_map_answer sigma root (Err Memory) second a b n m = absurd (n refl)
