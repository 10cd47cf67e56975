-- First mentions in a list with one dart more.
use Rattle.std.proofs.Common.{◌≡◌, ℕ, zero, suc, ◌+◌, ◌%◌, ◌<◌, ◌≤◌, ◌⊎◌, inl, inr, Bool, true, false, cond, ◌==◌, List, [], ◌∷◌, ◌++◌, length, get_or, refl, ◌∙◌, ap, arith, Contains}
use Rattle.std.specs.List.{list_any}
use Rattle.std.proofs.lemmas.Bool.{or_cases, or_left, or_right, or_parts, or_from, false_from_ne_true}
use Rattle.pm_perm.proofs.Contained.{contains_first, contains_later}
use Rattle.pm_map.specs.Rotation.{twin}
use Rattle.pm_map.specs.Canonical.{first_mentions_after, first_mentions}
use Rattle.pm_map.proofs.WholeMeeting.{test_from_stands, stands_from_test}
use Rattle.pm_map.proofs.CanonicalNames.{first_mentions_after-seen, first_mentions_after-new}

pub twin-twin : (d : ℕ) → twin (twin d) ≡ d
twin-twin d = omega arith

pub twin-other : (d : ℕ) → twin d ≡ d → ⊥
twin-other d e = omega arith

-- the twin stands in one of the two lists
abbrev IsSeen : List ℕ → List ℕ → ℕ → Type 0
IsSeen before darts d = (list_any (λ e. e == twin d) before ≡ true) ⊎ (list_any (λ e. e == twin d) darts ≡ true)

seen_later : (before : List ℕ) (x : ℕ) (darts : List ℕ) (d : ℕ) → IsSeen before (x ∷ darts) d → IsSeen (x ∷ before) darts d
seen_later before x darts d seen =
    elim seen [
      | inl early ↦ inl (or_right (x == twin d) (list_any (λ e. e == twin d) before) early)
      | inr late ↦ elim (or_cases (x == twin d) (list_any (λ e. e == twin d) darts) late) [
        | inl here ↦ inl (or_left (x == twin d) (list_any (λ e. e == twin d) before) here)
        | inr later ↦ inr later
      ]
    ]

-- a dart whose twin stands before it adds no mention
push_seen : (before darts : List ℕ) (d : ℕ) → IsSeen before darts d → first_mentions_after before (darts ++ d ∷ []) ≡ first_mentions_after before darts
push_seen before [] d seen =
    elim seen [
      | inl early ↦ first_mentions_after-seen before d [] early
      | inr late ↦ cc
    ]
push_seen before (x ∷ darts) d seen =
    ap (λ l. cond (list_any (λ e. e == twin x) before) l (x ∷ l)) (push_seen (x ∷ before) darts d (seen_later before x darts d seen))

cond_push : (b : Bool) (x d : ℕ) (l : List ℕ) → cond b (l ++ d ∷ []) (x ∷ (l ++ d ∷ [])) ≡ cond b l (x ∷ l) ++ d ∷ []
cond_push true x d l = refl
cond_push false x d l = refl

-- a dart whose twin doesn't stand before it is a mention
push_new : (before darts : List ℕ) (d : ℕ) → list_any (λ e. e == twin d) before ≡ false → list_any (λ e. e == twin d) darts ≡ false
    → first_mentions_after before (darts ++ d ∷ []) ≡ first_mentions_after before darts ++ d ∷ []
push_new before [] d early late = first_mentions_after-new before d [] early
push_new before (x ∷ darts) d early late =
    let parts = or_parts (x == twin d) (list_any (λ e. e == twin d) darts) late in
    ap (λ l. cond (list_any (λ e. e == twin x) before) l (x ∷ l)) (push_new (x ∷ before) darts d (or_from (x == twin d) (list_any (λ e. e == twin d) before) parts.0 early) parts.1)
    ∙ cond_push (list_any (λ e. e == twin x) before) x d (first_mentions_after (x ∷ before) darts)

pub first_mentions-seen : (darts : List ℕ) (d : ℕ) → Contains darts (twin d) → first_mentions (darts ++ d ∷ []) ≡ first_mentions darts
first_mentions-seen darts d stands = push_seen [] darts d (inr (test_from_stands darts (twin d) stands))

pub first_mentions-new : (darts : List ℕ) (d : ℕ) → (Contains darts (twin d) → ⊥) → first_mentions (darts ++ d ∷ []) ≡ first_mentions darts ++ d ∷ []
first_mentions-new darts d unseen = push_new [] darts d refl (false_from_ne_true (list_any (λ e. e == twin d) darts) (λ e. unseen (stands_from_test darts (twin d) e)))

-- mentions are darts of the list
head_stands : (x : ℕ) (darts later : List ℕ) (b : Bool) → ((k : ℕ) → k < length later → Contains darts (get_or later k 0))
    → (k : ℕ) → k < length (cond b later (x ∷ later)) → Contains (x ∷ darts) (get_or (cond b later (x ∷ later)) k 0)
head_stands x darts later true stand k h = contains_later x darts (get_or later k 0) (stand k h)
head_stands x darts later false stand zero h = contains_first x x darts refl
head_stands x darts later false stand (suc k) h = contains_later x darts (get_or later k 0) (stand k (omega arith))

mention_stands : (before darts : List ℕ) (k : ℕ) → k < length (first_mentions_after before darts) → Contains darts (get_or (first_mentions_after before darts) k 0)
mention_stands before [] k h = absurd (omega arith)
mention_stands before (x ∷ darts) k h =
    head_stands x darts (first_mentions_after (x ∷ before) darts) (list_any (λ e. e == twin x) before) (mention_stands (x ∷ before) darts) k h

pub first_mentions-stands : (darts : List ℕ) (k : ℕ) → k < length (first_mentions darts) → Contains darts (get_or (first_mentions darts) k 0)
first_mentions-stands darts k h = mention_stands [] darts k h

head_length : (b : Bool) (x : ℕ) (later : List ℕ) → length (cond b later (x ∷ later)) ≤ length later + 1
head_length true x later = omega arith
head_length false x later = omega arith

mention_length : (before darts : List ℕ) → length (first_mentions_after before darts) ≤ length darts
mention_length before [] = omega arith
mention_length before (x ∷ darts) =
    let later : length (first_mentions_after (x ∷ before) darts) ≤ length darts = mention_length (x ∷ before) darts in
    let head : length (first_mentions_after before (x ∷ darts)) ≤ length (first_mentions_after (x ∷ before) darts) + 1 = head_length (list_any (λ e. e == twin x) before) x (first_mentions_after (x ∷ before) darts) in
    omega arith

pub first_mentions-length : (darts : List ℕ) → length (first_mentions darts) ≤ length darts
first_mentions-length darts = mention_length [] darts

-- the twin of a dart below an even bound is below it
pub twin_below : (bound d : ℕ) → bound % 2 ≡ 0 → d < bound → twin d < bound
twin_below bound d even below = omega arith
