-- A step that may come may come as well after steps that nobody asked for, and it is legal once nothing is due and what
-- it touches is quiet.
use Rattle.std.proofs.Common.{◌≡◌, refl, ap, sym, ◌∙◌, subst, ℕ, ◌^◌, List, true, false, ◌&&◌, None, is_some, is_none, ◌==◌, nat_lt, nat_le}
use Rattle.std.specs.Prelude.{find, if◌then◌else◌}
use Rattle.std.specs.List.{list_any, list_all}
use Rattle.std.specs.Option.{option_map_or}
use Rattle.std.proofs.lemmas.Bool.{and_parts, and_from}
use Rattle.jsp_model.specs.declared.state.State.{State}
use Rattle.jsp_model.specs.declared.state.Commit.{Commit}
use Rattle.jsp_model.specs.declared.step.Step.{Step}
use Rattle.jsp_model.specs.declared.step.Step.TheVariants as step
use Rattle.jsp_model.specs.Lookup.{is_voting, joined_of, joined_at}
use Rattle.jsp_model.specs.Due.{due}
use Rattle.jsp_model.specs.Quiet.{are_quiet}
use Rattle.jsp_model.specs.Touches.{touches}
use Rattle.jsp_model.specs.Steps.{is_legal, is_fault, is_vote_to_abort, is_vote_to_commit}
use Rattle.jsp_model.specs.House.{Goes, is_unasked, bare}
use Rattle.jsp_quiet.proofs.Unasked.{LeavesVotes, free_run_leaves}
use Rattle.jsp_house.specs.Making.{may_come, has_rows}

-- ---- a step that may come

still_voting : (old new : State) (x : ℕ) → LeavesVotes old new → is_voting old x ≡ true → is_voting new x ≡ true
still_voting old new x h k = ap (λ (cs : List Commit). is_some (find (λ (c : Commit). c.transaction == x) cs)) h.commits ∙ k

pub may_still_come : (old new : State) (x : Step) → LeavesVotes old new → may_come old x ≡ true → may_come new x ≡ true
may_still_come old new (step.Open s) h k = ap (λ n. nat_le 1 s && nat_lt n s && nat_le s (2 ^ 31)) h.last_session ∙ k
may_still_come old new (step.Clock t) h k = refl
may_still_come old new (step.Ask s a ns) h k = ap (λ w. list_any (λ q. q.number == s) w) h.sessions ∙ k
may_still_come old new (step.Fault s id r) h k = ap (λ w. list_any (λ q. q.number == s) w && is_fault r) h.sessions ∙ k
may_still_come old new (step.Vote x space) h k =
    let parts = and_parts (is_voting old x) (option_map_or (λ j. is_none j.vote) (joined_at old x space) false) k in
    and_from (is_voting new x) (option_map_or (λ j. is_none j.vote) (joined_at new x space) false) (still_voting old new x h parts.0)
    (ap (λ js. option_map_or (λ j. is_none j.vote) (find (λ j. j.space == space) js) false) (h.joined x parts.0) ∙ parts.1)
may_still_come old new (step.Decide x c) h k =
    let parts = and_parts (is_voting old x) (if c then list_all is_vote_to_commit (joined_of old x) else list_any is_vote_to_abort (joined_of old x)) k in
    and_from (is_voting new x) (if c then list_all is_vote_to_commit (joined_of new x) else list_any is_vote_to_abort (joined_of new x)) (still_voting old new x h parts.0)
    (ap (λ js. if c then list_all is_vote_to_commit js else list_any is_vote_to_abort js) (h.joined x parts.0) ∙ parts.1)
may_still_come old new (step.Shut s) h k = absurd (cc)
may_still_come old new (step.Grant n ns) h k = absurd (cc)
may_still_come old new (step.Empty n) h k = absurd (cc)
may_still_come old new (step.Tell n) h k = absurd (cc)
may_still_come old new (step.Due item) h k = absurd (cc)
may_still_come old new (step.HandOut s n) h k = absurd (cc)

pub come_legal : (st : State) (x : Step) → may_come st x ≡ true → due st ≡ None → are_quiet st (touches st x) ≡ true → has_rows st x ≡ true → is_legal st x ≡ true
unfolding is_legal
come_legal st (step.Open s) h none quiet rows = h
come_legal st (step.Clock t) h none quiet rows = refl
come_legal st (step.Ask s a ns) h none quiet rows = rw (h, none, quiet, rows) refl
come_legal st (step.Fault s id r) h none quiet rows = h
come_legal st (step.Vote x space) h none quiet rows = rw quiet (and_from _ true h refl)
come_legal st (step.Decide x true) h none quiet rows = h
come_legal st (step.Decide x false) h none quiet rows = (and_parts (is_voting st x) (list_any is_vote_to_abort (joined_of st x)) h).1
come_legal st (step.Shut s) h none quiet rows = absurd (cc)
come_legal st (step.Grant n ns) h none quiet rows = absurd (cc)
come_legal st (step.Empty n) h none quiet rows = absurd (cc)
come_legal st (step.Tell n) h none quiet rows = absurd (cc)
come_legal st (step.Due item) h none quiet rows = absurd (cc)
come_legal st (step.HandOut s n) h none quiet rows = absurd (cc)

-- it is asked for
pub comes_asked : (st : State) (x : Step) → may_come st x ≡ true → is_unasked x ≡ false
comes_asked st (step.Open s) h = refl
comes_asked st (step.Clock t) h = refl
comes_asked st (step.Ask s a ns) h = refl
comes_asked st (step.Fault s id r) h = refl
comes_asked st (step.Vote x space) h = refl
comes_asked st (step.Decide x c) h = refl
comes_asked st (step.Shut s) h = refl
comes_asked st (step.HandOut s n) h = refl
comes_asked st (step.Grant n ns) h = absurd (cc)
comes_asked st (step.Empty n) h = absurd (cc)
comes_asked st (step.Tell n) h = absurd (cc)
comes_asked st (step.Due item) h = absurd (cc)

-- the rows don't matter to that, nor to what it touches
pub come_bare : (st : State) (x y : Step) → bare x ≡ bare y → may_come st y ≡ true → may_come st x ≡ true
come_bare st x y same h = may_bare st x ∙ ap (may_come st) same ∙ sym (may_bare st y) ∙ h
  where
    may_bare : (st : State) (x : Step) → may_come st x ≡ may_come st (bare x)
    may_bare st (step.Ask s a ns) = refl
    may_bare st (step.Open s) = refl
    may_bare st (step.Clock t) = refl
    may_bare st (step.Fault s id r) = refl
    may_bare st (step.Vote x space) = refl
    may_bare st (step.Decide x c) = refl
    may_bare st (step.Shut s) = refl
    may_bare st (step.HandOut s n) = refl
    may_bare st (step.Grant n ns) = refl
    may_bare st (step.Empty n) = refl
    may_bare st (step.Tell n) = refl
    may_bare st (step.Due item) = refl

of_bare : (st : State) (x : Step) → touches st x ≡ touches st (bare x)
unfolding touches
of_bare st (step.Ask s a ns) = refl
of_bare st (step.Open s) = refl
of_bare st (step.Clock t) = refl
of_bare st (step.Fault s id r) = refl
of_bare st (step.Vote x space) = refl
of_bare st (step.Decide x c) = refl
of_bare st (step.Shut s) = refl
of_bare st (step.HandOut s n) = refl
of_bare st (step.Grant n ns) = refl
of_bare st (step.Empty n) = refl
of_bare st (step.Tell n) = refl
of_bare st (step.Due item) = refl

pub touches_bare : (st : State) (x y : Step) → bare x ≡ bare y → touches st x ≡ touches st y
touches_bare st x y same = of_bare st x ∙ ap (touches st) same ∙ sym (of_bare st y)

-- it may come as well after steps that nobody asked for
pub goes_leave_votes : (old new : State) (owed left : List ℕ) (before after : List Step) → Goes old new owed left before after → LeavesVotes old new
goes_leave_votes old new owed left before after g = subst (LeavesVotes old) g.makes.view (free_run_leaves old g.steps g.makes.run g.own)

pub goes_still : (old new : State) (owed left : List ℕ) (before after : List Step) (x : Step) → Goes old new owed left before after → may_come old x ≡ true → may_come new x ≡ true
goes_still old new owed left before after x g h = may_still_come old new x (goes_leave_votes old new owed left before after g) h
