use Rattle.list_nodes.proofs.ListLaws.{full-numbers, listing_full, on_none, on_requires, listing_on, taken_requires, stands_after, fewer, none_left, rest_requires, listing_rest}
use Rattle.list_nodes.proofs.Falls.{to_place, to_choice, to_next}
use Rattle.list_starts.proofs.OpenLaws.{place-told, open_told}
use Rattle.list_starts.proofs.FullLaws.{full-added}
use lib.ListN.{length}
use Rattle.list_all.proofs.plans.+list_choice_list_place.Goals as goal

pub list_choice-returns-then-choice-plan : goal.list_choice-returns-then-choice-plan
list_choice-returns-then-choice-plan t c =
    let l = c.requires in
    let e = c.if-choice-plan.true in
    let p = c.list_plan.ensures in
    listing_full l e p.2 (full-added _ _ _ _ _ _ l.shaped (full-numbers l e) p.0 p.1)

pub list_choice-returns-then-left-eq0 : goal.list_choice-returns-then-left-eq0
list_choice-returns-then-left-eq0 t c =
    on_none c.requires c.if-choice-plan.false (open_told _ _ _ _ _ _ c.requires.shaped.few-slots _ c.next_open-left.ensures) c.if-left-eq0.true

pub list_choice-list_place-requires : goal.list_choice-list_place-requires
list_choice-list_place-requires t c =
    let s = c in
    let r = on_requires s.requires c.if-choice-plan.false (open_told _ _ _ _ _ _ s.requires.shaped.few-slots _ c.next_open-left.ensures) c.if-left-eq0.false in
    (to_place t (length s.args.day.now.mins.now) s.args.choice _ _ s.decreases r.1.few s.requires.shaped.few-slots, r)

pub list_choice-returns : goal.list_choice-returns
list_choice-returns t c =
    listing_on c.requires c.if-choice-plan.false (open_told _ _ _ _ _ _ c.requires.shaped.few-slots _ c.next_open-left.ensures) c.list_place.ensures

pub list_place-list_choice-requires : goal.list_place-list_choice-requires
list_place-list_choice-requires t c =
    let s = c in
    (to_choice t (length s.args.day.now.mins.now) s.args.choice s.args.left s.decreases s.requires.0.walks.within s.requires.1.some, taken_requires s.args.choice s.args.left s.requires.0 s.requires.1 (place-told _ _ s.requires.1.some c.place_at-place.ensures) c.take_place.ensures.0 c.take_place.ensures.1)

pub list_place-leave_place-requires : goal.list_place-leave_place-requires
list_place-leave_place-requires t c =
    let s = c in
    stands_after s.args.choice s.args.left s.requires.0 s.requires.1 (place-told _ _ s.requires.1.some c.place_at-place.ensures) c.take_place.ensures.0 c.take_place.ensures.1 c.list_choice.ensures

pub list_place-returns-then-next-eq0 : goal.list_place-returns-then-next-eq0
list_place-returns-then-next-eq0 t c =
    let s = c in
    none_left s.args.choice s.args.left s.requires.0 s.requires.1 (place-told _ _ s.requires.1.some c.place_at-place.ensures) c.take_place.ensures.0 c.take_place.ensures.1 c.list_choice.ensures c.leave_place.ensures (open_told _ _ _ _ _ _ s.requires.0.shaped.few-slots _ c.next_open-next.ensures) c.if-next-eq0.true

pub list_place-list_place-requires : goal.list_place-list_place-requires
list_place-list_place-requires t c =
    let s = c in
    (to_next t (length s.args.day.now.mins.now) s.args.choice s.args.left _ s.decreases (fewer s.args.choice s.args.left s.requires.0 s.requires.1 (place-told _ _ s.requires.1.some c.place_at-place.ensures) c.take_place.ensures.0 c.take_place.ensures.1 c.list_choice.ensures c.leave_place.ensures (open_told _ _ _ _ _ _ s.requires.0.shaped.few-slots _ c.next_open-next.ensures)), rest_requires s.args.choice s.args.left s.requires.0 s.requires.1 (place-told _ _ s.requires.1.some c.place_at-place.ensures) c.take_place.ensures.0 c.take_place.ensures.1 c.list_choice.ensures c.leave_place.ensures (open_told _ _ _ _ _ _ s.requires.0.shaped.few-slots _ c.next_open-next.ensures) c.list_choice.auto.buffer c.if-next-eq0.false)

pub list_place-returns : goal.list_place-returns
list_place-returns t c =
    let s = c in
    listing_rest s.args.choice s.args.left s.requires.0 s.requires.1 (place-told _ _ s.requires.1.some c.place_at-place.ensures) c.take_place.ensures.0 c.take_place.ensures.1 c.list_choice.ensures c.leave_place.ensures (open_told _ _ _ _ _ _ s.requires.0.shaped.few-slots _ c.next_open-next.ensures) c.list_place.ensures
