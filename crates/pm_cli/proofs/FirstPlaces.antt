-- The first place with a property, where there is one.
use Rattle.std.proofs.Common.{ℕ, ◌<◌, ◌≤◌, inl, inr, List, length, arith}
use Rattle.std.proofs.lemmas.Bool.{cases_lt}
use Rattle.std.proofs.lemmas.List.{get_or_past}
use Rattle.pm_perm.proofs.LeastCases.{all_or_least}
use Rattle.pm_brackets.specs.First.{IsFirst}
use Rattle.pm_brackets.specs.Node.{IsNode}

-- no place has the property, or there is a first that has it, where only places within a bound can
pub first_or_none : (P : ℕ → Type 0) (bound : ℕ) → ((k : ℕ) → P k → k < bound) → (((k : ℕ) → P k → ⊥) → ⊥) → ((k : ℕ) → IsFirst P k → ⊥) → ⊥
first_or_none P bound within none first =
    all_or_least (λ k. P k → ⊥) bound (λ all. none (λ k here. all k (within k here) here))
    (λ k is. is.breaks (λ here. first k (record { here = here; least = λ j other. no_earlier k j is.least other }))) where
      no_earlier : (k j : ℕ) → ((i : ℕ) → i < k → P i → ⊥) → P j → k ≤ j
      no_earlier k j before other = elim (cases_lt j k) [ inl less ↦ absurd (before j less other) | inr after ↦ after ]

-- a node is one of the places
pub node_within : (places : List ℕ) (node : ℕ) → 0 < length places → IsNode places node → node < length places
node_within places node some (inl root) = omega (arith, root, some)
node_within places node some (inr opens) = elim (cases_lt node (length places)) [ inl less ↦ less | inr past ↦ absurd (omega (arith, opens, get_or_past places node 0 past)) ]
