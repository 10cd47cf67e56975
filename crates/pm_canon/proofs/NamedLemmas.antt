-- Names for the darts of a list, one dart after another.
use Rattle.std.proofs.Common.{◌≡◌, ◌≢◌, ℕ, ◌+◌, ◌*◌, ◌%◌, ◌<◌, ◌≤◌, inl, inr, true, false, List, [], ◌∷◌, ◌++◌, length, take, get_or, set, map, replicate, slice_index, refl, sym, ◌∙◌, ap, subst, arith, length-set, Contains}
use borrow.Author.Count.{below_more}
use Rattle.std.proofs.lemmas.Bool.{cases_eq}
use Rattle.std.proofs.lemmas.List.{ext_get_or, get_or-map, length-map, get_or-set_same, get_or-set_other, get_or-take, take_more, take_all, length-take-le, length-replicate}
use Rattle.pm_limits.specs.declared.TheConstants.{MAX_EDGES}
use Rattle.pm_perm.proofs.Contained.{contains_at, contains_none}
use Rattle.pm_map.specs.Rotation.{twin}
use Rattle.std.proofs.lemmas.List.Elements.{Contains-append_left, Contains-push, Contains-push_cases}
use Rattle.pm_canon.specs.MeetingOrder.{HasEachOnce}
use Rattle.pm_canon.specs.steps.Naming.{AreUnnamed, NamesEdge, had, given, AreNamed, IsNamingList, IsNaming, NamesMentions}
use Rattle.pm_canon.proofs.KeptLemmas.{HasEachOnce-fresh, HasEachOnce-length}
use Rattle.pm_canon.proofs.MeetingLemmas.{MarksDarts-none}
use Rattle.pm_canon.proofs.MentionLemmas.{twin-twin, twin-other, twin_below, first_mentions-length}
use Rattle.pm_canon.proofs.NamingLemmas.{IsNaming-none, IsNaming-seen, IsNaming-new}

-- no dart is named
pub naming_list_begins : (old names : List ℕ) → AreUnnamed names → IsNamingList old old names 0 0
naming_list_begins old names none = record {
  seen = replicate (length names) false;
  seen_size = length-replicate (length names) false;
  naming = IsNaming-none (replicate (length names) false) names (MarksDarts-none (length names));
  unnamed = λ d h e s. contains_none (twin d) s;
  standing = λ d s. absurd (contains_none d s);
  named = λ d h e s. absurd (e (none.each d h));
  rewritten = record { named = λ k less. absurd (omega arith); kept = λ k from. refl };
}

-- names are few
pub naming_list_few : (old new names : List ℕ) (place name : ℕ) → HasEachOnce (length names) old → IsNamingList old new names place name → place ≤ length old → name ≤ 2 * length names
naming_list_few old new names place name once n h =
    omega (arith, n.naming.next, first_mentions-length (take place old), length-take-le place old h, HasEachOnce-length (length names) old once)

-- the list with one name more
rewritten_more : (names more old new : List ℕ) (place : ℕ) → AreNamed names old new place → place < length new → ((k : ℕ) → k < place → get_or more (get_or old k 0) 0 ≡ get_or names (get_or old k 0) 0)
    → AreNamed more old (set new place (get_or more (get_or old place 0) 0)) (place + 1)
rewritten_more names more old new place r h same =
    let name = get_or more (get_or old place 0) 0 in
    record {
      named = below_more _ _ (λ k less. get_or-set_other new place k name 0 (λ e. omega (arith, e, less)) ∙ r.named k less ∙ sym (same k less)) (get_or-set_same new place name 0 h);
      kept = λ k from. get_or-set_other new place k name 0 (λ e. omega (arith, e, from)) ∙ r.kept k (omega (arith, from));
    }

-- a dart of an edge that has its name
list_had : (old new names : List ℕ) (place name : ℕ) → HasEachOnce (length names) old → IsNamingList old new names place name → place < length old → place < length new
    → get_or names (get_or old place 0) 0 ≢ 4294967295 → IsNamingList old (set new place (get_or names (get_or old place 0) 0)) names (place + 1) name
list_had old new names place name once n h in_new has =
    let before = take place old in
    let dart = get_or old place 0 in
    let more : take (place + 1) old ≡ before ++ dart ∷ [] = take_more old place 0 h in
    let below : dart < length names = once.stays place h in
    let fresh : Contains before dart → ⊥ = HasEachOnce-fresh (length names) old place once h in
    let other : Contains before (twin dart) = n.named dart below has fresh in
    record {
      seen = set n.seen dart true;
      seen_size = length-set n.seen dart true ∙ n.seen_size;
      naming = subst (λ l. IsNaming l (set n.seen dart true) names name) (sym more) (IsNaming-seen before n.seen names name dart n.naming (omega (arith, below, n.seen_size)) other);
      unnamed = λ d within none s. elim (Contains-push_cases before dart (twin d) (subst (λ l. Contains l (twin d)) more s)) [
        | inl earlier ↦ n.unnamed d within none earlier
        | inr last ↦ n.standing d (subst (Contains before) (ap twin last ∙ twin-twin d) other) none
      ];
      standing = λ d s. elim (Contains-push_cases before dart d (subst (λ l. Contains l d) more s)) [
        | inl earlier ↦ n.standing d earlier
        | inr last ↦ subst (λ e. get_or names e 0 ≢ 4294967295) last has
      ];
      named = λ d within some absent. subst (λ l. Contains l (twin d)) (sym more)
          (Contains-append_left before (dart ∷ []) (twin d) (n.named d within some (λ s. absent (subst (λ l. Contains l d) (sym more) (Contains-append_left before (dart ∷ []) d s)))));
      rewritten = rewritten_more names names old new place n.rewritten in_new (λ k less. refl);
    }

-- a dart of an edge that gets its name
list_given : (old new names : List ℕ) (place name : ℕ) → length names % 2 ≡ 0 → length names ≤ 2 * MAX_EDGES → HasEachOnce (length names) old → IsNamingList old new names place name → place < length old
    → place < length new → get_or names (get_or old place 0) 0 ≡ 4294967295
    → IsNamingList old (set new place (get_or (set (set names (get_or old place 0) name) (twin (get_or old place 0)) (name + 1)) (get_or old place 0) 0))
    (set (set names (get_or old place 0) name) (twin (get_or old place 0)) (name + 1)) (place + 1) (name + 2)
list_given old new names place name even few once n h in_new none =
    let before = take place old in
    let dart = get_or old place 0 in
    let more : take (place + 1) old ≡ before ++ dart ∷ [] = take_more old place 0 h in
    let below : dart < length names = once.stays place h in
    let twin_is : twin dart < length names = twin_below (length names) dart even below in
    let fresh : Contains before dart → ⊥ = HasEachOnce-fresh (length names) old place once h in
    let unseen : Contains before (twin dart) → ⊥ = n.unnamed dart below none in
    let new_names = set (set names dart name) (twin dart) (name + 1) in
    let size : length new_names ≡ length names = length-set (set names dart name) (twin dart) (name + 1) ∙ length-set names dart name in
    let small : name ≤ 2 * length names = naming_list_few old new names place name once n (omega arith) in
    let here : get_or new_names dart 0 ≡ name = get_or-set_other (set names dart name) (twin dart) dart (name + 1) 0 (λ e. twin-other dart (sym e)) ∙ get_or-set_same names dart name 0 below in
    let there : get_or new_names (twin dart) 0 ≡ name + 1 = get_or-set_same (set names dart name) (twin dart) (name + 1) 0 (omega (arith, twin_is, length-set names dart name)) in
    let elsewhere : (e : ℕ) → e ≢ dart → e ≢ twin dart → get_or new_names e 0 ≡ get_or names e 0 = λ e one two.
    get_or-set_other (set names dart name) (twin dart) e (name + 1) 0 two ∙ get_or-set_other names dart e name 0 one in
    let kept : (e : ℕ) → Contains before e → get_or new_names e 0 ≡ get_or names e 0 = λ e s.
    elsewhere e (λ same. fresh (subst (Contains before) same s)) (λ same. unseen (subst (Contains before) same s)) in
    record {
      seen = set n.seen dart true;
      seen_size = length-set n.seen dart true ∙ n.seen_size ∙ sym size;
      naming = subst (λ l. IsNaming l (set n.seen dart true) new_names (name + 2)) (sym more)
          (IsNaming-new before n.seen names name dart n.naming (omega (arith, below, n.seen_size)) below twin_is fresh unseen);
      unnamed = λ d within unnamed s. elim (cases_eq d dart) [
        | inl is ↦ omega (arith, ap (λ e. get_or new_names e 0) is, here, unnamed, small, few)
        | inr not_dart ↦ elim (cases_eq d (twin dart)) [
          | inl is ↦ omega (arith, ap (λ e. get_or new_names e 0) is, there, unnamed, small, few)
          | inr not_twin ↦ elim (Contains-push_cases before dart (twin d) (subst (λ l. Contains l (twin d)) more s)) [
            | inl earlier ↦ n.unnamed d (omega (arith, within, size)) (sym (elsewhere d not_dart not_twin) ∙ unnamed) earlier
            | inr last ↦ not_twin (sym (twin-twin d) ∙ ap twin (sym last))
          ]
        ]
      ];
      standing = λ d s. elim (Contains-push_cases before dart d (subst (λ l. Contains l d) more s)) [
        | inl earlier ↦ subst (λ x. x ≢ 4294967295) (sym (kept d earlier)) (n.standing d earlier)
        | inr last ↦ λ e. omega (arith, ap (λ x. get_or new_names x 0) last, here, e, small, few)
      ];
      named = λ d within some absent.
          let not_dart : d ≢ dart = λ is. absent (subst (λ l. Contains l d) (sym more) (subst (Contains (before ++ dart ∷ [])) (sym is) (Contains-push before dart))) in
          subst (λ l. Contains l (twin d)) (sym more) (elim (cases_eq d (twin dart)) [
            | inl is ↦ subst (Contains (before ++ dart ∷ [])) (sym (ap twin is ∙ twin-twin dart)) (Contains-push before dart)
            | inr not_twin ↦ Contains-append_left before (dart ∷ []) (twin d)
                (n.named d (omega (arith, within, size)) (subst (λ x. x ≢ 4294967295) (elsewhere d not_dart not_twin) some)
                (λ s. absent (subst (λ l. Contains l d) (sym more) (Contains-append_left before (dart ∷ []) d s))))
          ]);
      rewritten = rewritten_more names new_names old new place n.rewritten in_new
          (λ k less. kept (get_or old k 0) (contains_at (take place old) (get_or old k 0) k (omega (arith, less, h, length-take-le place old (omega arith))) (get_or-take place old k 0 less)));
    }

-- one dart more
pub naming_list_more : (old new names more : List ℕ) (place name next : ℕ) → length names % 2 ≡ 0 → length names ≤ 2 * MAX_EDGES → HasEachOnce (length names) old → IsNamingList old new names place name
    → place < length old → place < length new → NamesEdge (get_or new place 0) name names more next → IsNamingList old (set new place (get_or more (get_or new place 0) 0)) more (place + 1) next
naming_list_more old new names more place name next even few once n h in_new edge =
    let is : get_or new place 0 ≡ get_or old place 0 = n.rewritten.kept place (omega arith) in
    subst (λ d. NamesEdge d name names more next → IsNamingList old (set new place (get_or more d 0)) more (place + 1) next) (sym is) step edge where
      step : NamesEdge (get_or old place 0) name names more next → IsNamingList old (set new place (get_or more (get_or old place 0) 0)) more (place + 1) next
      step (had has same_names same_name) =
          subst (λ l. IsNamingList old (set new place (get_or l (get_or old place 0) 0)) l (place + 1) next) (sym same_names)
          (subst (IsNamingList old (set new place (get_or names (get_or old place 0) 0)) names (place + 1)) (sym same_name) (list_had old new names place name once n h in_new has))
      step (given none now then) =
          subst (λ l. IsNamingList old (set new place (get_or l (get_or old place 0) 0)) l (place + 1) next) (sym now)
          (subst (IsNamingList old _ _ (place + 1)) (sym then) (list_given old new names place name even few once n h in_new none))

-- all darts are named
pub naming_list_ends : (old new names : List ℕ) (place name : ℕ) → IsNamingList old new names place name → length old ≤ place → NamesMentions old names
naming_list_ends old new names place name n all = subst (λ l. NamesMentions l names) (take_all place old all) n.naming.named

pub naming_list_named : (old new names : List ℕ) (place name : ℕ) → IsNamingList old new names place name → length new ≡ length old → length old ≤ place → new ≡ map (slice_index names) old
naming_list_named old new names place name n size all =
    ext_get_or 0 new (map (slice_index names) old) (size ∙ sym (length-map old (slice_index names)))
    (λ k h. n.rewritten.named k (omega (arith, h, size, all)) ∙ sym (get_or-map (slice_index names) old k 0 0 (omega (arith, h, size))))
