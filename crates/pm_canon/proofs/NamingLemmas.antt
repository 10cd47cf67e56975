-- The names of the darts so far, with one mention more, and what the names do.
use Rattle.std.proofs.Common.{◌≡◌, ◌≢◌, ℕ, ◌+◌, ◌*◌, ◌<◌, inl, inr, Bool, true, List, [], ◌∷◌, ◌++◌, length, get_or, set, refl, sym, ◌∙◌, ap, subst, arith, length-set, Contains}
use Rattle.std.proofs.lemmas.List.{get_or_append_left, get_or_push, get_or-set_same, get_or-set_other, length_push}
use Rattle.std.proofs.lemmas.Bool.{cases_lt}
use Rattle.pm_map.specs.Rotation.{twin}
use Rattle.pm_map.specs.Canonical.{first_mentions}
use Rattle.pm_canon.specs.steps.Kept.{MarksDarts}
use Rattle.pm_canon.specs.steps.Naming.{IsNaming}
use Rattle.pm_canon.proofs.KeptLemmas.{MarksDarts-push}
use Rattle.pm_canon.proofs.MentionLemmas.{twin-twin, twin-other, first_mentions-seen, first_mentions-new, first_mentions-stands}

-- the names where nothing is seen
pub IsNaming-none : (seen : List Bool) (names : List ℕ) → MarksDarts seen [] → IsNaming [] seen names 0
IsNaming-none seen names m = record { next = refl; marking = m; named = record { mention = λ k h. absurd (omega arith); other = λ k h. absurd (omega arith) } }

-- a dart whose twin is seen
pub IsNaming-seen : (darts : List ℕ) (seen : List Bool) (names : List ℕ) (name d : ℕ) → IsNaming darts seen names name → d < length seen → Contains darts (twin d)
    → IsNaming (darts ++ d ∷ []) (set seen d true) names name
IsNaming-seen darts seen names name d n within stands =
    let same : first_mentions darts ≡ first_mentions (darts ++ d ∷ []) = sym (first_mentions-seen darts d stands) in
    record {
      next = n.next ∙ ap (λ l. 2 * length l) same;
      marking = MarksDarts-push seen darts d n.marking within;
      named = record {
        mention = subst (λ l. (k : ℕ) → k < length l → get_or names (get_or l k 0) 0 ≡ 2 * k) same n.named.mention;
        other = subst (λ l. (k : ℕ) → k < length l → get_or names (twin (get_or l k 0)) 0 ≡ 2 * k + 1) same n.named.other;
      };
    }

two_names-elsewhere : (names : List ℕ) (d name e : ℕ) → e ≢ d → e ≢ twin d → get_or (set (set names d name) (twin d) (name + 1)) e 0 ≡ get_or names e 0
two_names-elsewhere names d name e not_d not_twin =
    get_or-set_other (set names d name) (twin d) e (name + 1) 0 not_twin ∙ get_or-set_other names d e name 0 not_d

two_names-here : (names : List ℕ) (d name : ℕ) → d < length names → get_or (set (set names d name) (twin d) (name + 1)) d 0 ≡ name
two_names-here names d name within =
    get_or-set_other (set names d name) (twin d) d (name + 1) 0 (λ e. twin-other d (sym e)) ∙ get_or-set_same names d name 0 within

two_names-twin : (names : List ℕ) (d name : ℕ) → twin d < length names → get_or (set (set names d name) (twin d) (name + 1)) (twin d) 0 ≡ name + 1
two_names-twin names d name within =
    get_or-set_same (set names d name) (twin d) (name + 1) 0 (omega (arith, length-set names d name))

-- a dart that is a first mention
pub IsNaming-new : (darts : List ℕ) (seen : List Bool) (names : List ℕ) (name d : ℕ) → IsNaming darts seen names name → d < length seen → d < length names → twin d < length names
    → (Contains darts d → ⊥) → (Contains darts (twin d) → ⊥)
    → IsNaming (darts ++ d ∷ []) (set seen d true) (set (set names d name) (twin d) (name + 1)) (name + 2)
IsNaming-new darts seen names name d n in_seen within twin_within fresh unseen =
    let more : first_mentions (darts ++ d ∷ []) ≡ first_mentions darts ++ d ∷ [] = first_mentions-new darts d unseen in
    let mentions : List ℕ = first_mentions darts in
    let new_names : List ℕ = set (set names d name) (twin d) (name + 1) in
    let size : length (mentions ++ d ∷ []) ≡ length mentions + 1 = length_push mentions d in
    let left : (k : ℕ) → k < length mentions → get_or (mentions ++ d ∷ []) k 0 ≡ get_or mentions k 0 = λ k h. get_or_append_left mentions (d ∷ []) 0 k h in
    let right : (k : ℕ) → k ≡ length mentions → get_or (mentions ++ d ∷ []) k 0 ≡ d = λ k h. get_or_push mentions d 0 k (sym h) in
    let stands : (k : ℕ) → k < length mentions → Contains darts (get_or mentions k 0) = first_mentions-stands darts in
    let next : name ≡ 2 * length mentions = n.next in
    let not_d : (k : ℕ) → k < length mentions → get_or mentions k 0 ≢ d = λ k h e. fresh (subst (λ x. Contains darts x) e (stands k h)) in
    let not_twin : (k : ℕ) → k < length mentions → get_or mentions k 0 ≢ twin d = λ k h e. unseen (subst (λ x. Contains darts x) e (stands k h)) in
    let mention : (k : ℕ) → k < length (mentions ++ d ∷ []) → get_or new_names (get_or (mentions ++ d ∷ []) k 0) 0 ≡ 2 * k = λ k h. elim (cases_lt k (length mentions)) [
      | inl before ↦ ap (λ x. get_or new_names x 0) (left k before) ∙ two_names-elsewhere names d name (get_or mentions k 0) (not_d k before) (not_twin k before) ∙ n.named.mention k before
      | inr last ↦
          let is_last : k ≡ length mentions = omega arith in
          ap (λ x. get_or new_names x 0) (right k is_last) ∙ two_names-here names d name within ∙ next ∙ ap (λ x. 2 * x) (sym is_last)
    ] in
    let other : (k : ℕ) → k < length (mentions ++ d ∷ []) → get_or new_names (twin (get_or (mentions ++ d ∷ []) k 0)) 0 ≡ 2 * k + 1 = λ k h. elim (cases_lt k (length mentions)) [
      | inl before ↦ ap (λ x. get_or new_names (twin x) 0) (left k before)
          ∙ two_names-elsewhere names d name (twin (get_or mentions k 0))
          (λ e. not_twin k before (sym (twin-twin (get_or mentions k 0)) ∙ ap twin e))
          (λ e. not_d k before (sym (twin-twin (get_or mentions k 0)) ∙ ap twin e ∙ twin-twin d))
          ∙ n.named.other k before
      | inr last ↦
          let is_last : k ≡ length mentions = omega arith in
          ap (λ x. get_or new_names (twin x) 0) (right k is_last) ∙ two_names-twin names d name twin_within ∙ ap (λ x. x + 1) (next ∙ ap (λ x. 2 * x) (sym is_last))
    ] in
    record {
      next = omega (arith, ap length more);
      marking = MarksDarts-push seen darts d n.marking in_seen;
      named = record {
        mention = subst (λ l. (k : ℕ) → k < length l → get_or new_names (get_or l k 0) 0 ≡ 2 * k) (sym more) mention;
        other = subst (λ l. (k : ℕ) → k < length l → get_or new_names (twin (get_or l k 0)) 0 ≡ 2 * k + 1) (sym more) other;
      };
    }
