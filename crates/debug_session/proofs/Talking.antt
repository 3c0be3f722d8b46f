-- How a dialogue goes on, and how a session ends.
use Rattle.std.proofs.Common.{◌≡◌, ◌<◌, ◌≤◌, ◌-◌, length, take, drop, ℕ, List, [], ◌∷◌, ◌++◌, refl}
use Rattle.std.proofs.Common.{sym, ap, ◌∙◌, append_assoc, Option, Bool, true, false, subst}
use Rattle.std.proofs.lemmas.List.{append-nil, take-append-drop}
use Rattle.std.proofs.lemmas.Slice.{between_to_end}
use Rattle.std.proofs.KnownBytes.{Appends-nil, Appends-trans, Consumes-trans}
use Rattle.std.specs.Io.KnownBytes.{Appends, Consumes, IsAtEnd}
use Rattle.link.specs.Transfer.{AppendsPart}
use Rattle.debug_lines.specs.declared.reader.Event.{Event}
use Rattle.debug_lines.specs.Lines.{Held, IsAfter, joined}
use Rattle.debug_replies.specs.Breaking.{is_break}
use Rattle.machine_steps.specs.Machines.{IsIdle}
use Rattle.machine_log.specs.Logs.{Log}
use Rattle.debug_session.specs.Answers.{Session, session, Answers}
use Rattle.debug_session.specs.Runs.{RunSpec}
use Rattle.debug_session.specs.Dialogues.{command_of_event, Dialogue, NoneQuits, is_quit}
use Rattle.debug_session.specs.Conversations.{Conversation, EndsWith, Goes, HasDrained, HasServed, IsCutShort, IsEnd, IsServed, IsStop, Reads, Stops}
use Rattle.debug_session.specs.declared.session_end.SessionEnd.{SessionEnd}
use Rattle.debug_session.specs.declared.session_end.SessionEnd.TheVariants.{Quit, EndOfInput, ReadFailed, WriteFailed, Memory, TraceFull}

-- ---- parts of a dialogue

joined_both : (ls ms : List (List ℕ)) → joined (ls ++ ms) ≡ joined ls ++ joined ms
joined_both [] ms = refl
joined_both (l ∷ ls) ms = ap (λ t. l ++ 10 ∷ t) (joined_both ls ms) ∙ sym (append_assoc l (10 ∷ joined ls) (joined ms))

none_both : (es fs : List Event) → NoneQuits es → NoneQuits fs → NoneQuits (es ++ fs)
none_both [] fs p q = q
none_both (e ∷ es) fs p q = (p.0, none_both es fs p.1 q)

reads_both : (a b c : Held) (xs ys : List ℕ) (es fs : List Event) → Reads a xs es b → Reads b ys fs c → Reads a (xs ++ ys) (es ++ fs) c
reads_both a b c xs ys es fs p q = λ bytes before h.
    rw (← append_assoc bytes xs ys, ← append_assoc before es fs) (q (bytes ++ xs) (before ++ es) (p bytes before h))

ends_after : (es fs : List Event) (P : Event → Type 0) → NoneQuits es → EndsWith fs P → EndsWith (es ++ fs) P
ends_after es fs P p q = record {
  before = es ++ q.before;
  last = q.last;
  all = ap (λ x. es ++ x) q.all ∙ sym (append_assoc es q.before (q.last ∷ []));
  none = none_both es q.before p q.none;
  end = q.end;
}

cut_after : (rs ss : List (List ℕ)) (missing : List ℕ) → IsCutShort ss missing → IsCutShort (rs ++ ss) missing
cut_after rs ss missing q = record {
  before = rs ++ q.before;
  last = q.last;
  all = ap (λ x. rs ++ x) q.all ∙ sym (append_assoc rs q.before (q.last ∷ []));
  part = q.part;
  cut = q.cut;
  some = q.some;
}

stop_after : (end : SessionEnd) (es fs : List Event) (rs ss : List (List ℕ)) (missing : List ℕ) → NoneQuits es → IsStop end fs ss missing →
    IsStop end (es ++ fs) (rs ++ ss) missing
stop_after Quit es fs rs ss missing n p = (p.0, ends_after es fs (λ event. is_quit event ≡ true) n p.1)
stop_after WriteFailed es fs rs ss missing n p = (cut_after rs ss missing p.0, ends_after es fs (λ _. Unit {0}) n p.1)
stop_after EndOfInput es fs rs ss missing n p = p
stop_after ReadFailed es fs rs ss missing n p = p
stop_after Memory es fs rs ss missing n p = p
stop_after TraceFull es fs rs ss missing n p = p

end_of_stop : (end : SessionEnd) (events : List Event) (replies : List (List ℕ)) (unread missing : List ℕ) (left : Option (List ℕ)) →
    IsStop end events replies missing → IsEnd end events replies unread missing left
end_of_stop Quit events replies unread missing left p = p
end_of_stop WriteFailed events replies unread missing left p = p
end_of_stop EndOfInput events replies unread missing left p = absurd p
end_of_stop ReadFailed events replies unread missing left p = absurd p
end_of_stop Memory events replies unread missing left p = p
end_of_stop TraceFull events replies unread missing left p = p

-- A fact that holds in any case holds if the session began, however it ended.
pub served : (end : SessionEnd) (A : Type 0) → A → IsServed end A (Unit {0})
served Quit A a = a
served EndOfInput A a = a
served ReadFailed A a = a
served WriteFailed A a = a
served Memory A a = tt
served TraceFull A a = tt

-- ---- pieces

-- After a read within the rest of a piece, the piece is still what was fed and what is left.
pub fed_more : (piece input rest : List ℕ) (n k : ℕ) → length rest ≤ k → piece ≡ input ++ rest → piece ≡ (input ++ take n rest) ++ take (k - n) (drop n rest)
fed_more piece input rest n k h e = rw (between_to_end rest n k h, append_assoc, take-append-drop) e

-- If n more bytes of the rest of a piece are fed, the piece is what is fed and what is left.
pub fed_part : (piece input rest : List ℕ) (n : ℕ) → piece ≡ input ++ rest → piece ≡ (input ++ take n rest) ++ drop n rest
fed_part piece input rest n e = rw (append_assoc, take-append-drop) e

take_none : (n : ℕ) (xs : List ℕ) → n ≡ 0 → take n xs ≡ []
take_none n xs e = rw e refl

-- A read of no bytes takes nothing more from the reader.
pub takes_nothing : (a b c : Option (List ℕ)) (xs buf : List ℕ) (n : ℕ) → n ≡ 0 → Consumes a b xs → Consumes b c (take n buf) → Consumes a c xs
takes_nothing a b c xs buf n e p q = rw append-nil at (Consumes-trans a b c xs [] p (rw (take_none n buf e) at q))

-- If a piece is taken from the reader and split in two, both parts are taken in a row.
pub takes_part : (a b c : Option (List ℕ)) (xs ys zs piece : List ℕ) → Consumes a b xs → Consumes b c piece → piece ≡ ys ++ zs →
    Consumes a c ((xs ++ ys) ++ zs)
takes_part a b c xs ys zs piece p q e = rw (append_assoc xs ys zs, ← e) (Consumes-trans a b c xs piece p q)

-- ---- what the runner of `cont` does is the same throughout

module _ (run : RunSpec) where
  dialogue_both : (old mid new : Session) (es fs : List Event) (rs ss : List (List ℕ)) → Dialogue run old es rs mid → Dialogue run mid fs ss new →
      Dialogue run old (es ++ fs) (rs ++ ss) new
  dialogue_both old mid new [] fs [] ss p q = subst (λ (s : Session). Dialogue run s fs ss new) p q
  dialogue_both old mid new (e ∷ es) fs (r ∷ rs) ss p q = (p.0, p.1, dialogue_both p.0 mid new es fs rs ss p.2 q)
  dialogue_both old mid new [] fs (r ∷ rs) ss p q = absurd p
  dialogue_both old mid new (e ∷ es) fs [] ss p q = absurd p

  -- A dialogue over no bytes leaves all as it was.
  pub goes_none : (h : Held) (s : Session) (w : Option (List ℕ)) → Goes run h s w [] h s w
  goes_none h s w = record {
    events = [];
    replies = [];
    lines = λ bytes before p. rw (append-nil bytes, append-nil before) p;
    dialogue = refl;
    wrote = Appends-nil w;
    none = tt;
  }

  -- If a dialogue goes on over some bytes, and then over others, it goes on over both in a row.
  pub goes_both : (h0 h1 h2 : Held) (s0 s1 s2 : Session) (w0 w1 w2 : Option (List ℕ)) (xs ys : List ℕ) → Goes run h0 s0 w0 xs h1 s1 w1 →
      Goes run h1 s1 w1 ys h2 s2 w2 → Goes run h0 s0 w0 (xs ++ ys) h2 s2 w2
  goes_both h0 h1 h2 s0 s1 s2 w0 w1 w2 xs ys p q = record {
    events = p.events ++ q.events;
    replies = p.replies ++ q.replies;
    lines = reads_both h0 h1 h2 xs ys p.events q.events p.lines q.lines;
    dialogue = dialogue_both s0 s1 s2 p.events q.events p.replies q.replies p.dialogue q.dialogue;
    wrote =
        subst (λ text. Appends w0 w2 text) (sym (joined_both p.replies q.replies))
        (Appends-trans w0 w1 w2 (joined p.replies) (joined q.replies) p.wrote q.wrote);
    none = none_both p.events q.events p.none q.none;
  }

  -- If no event ends in the bytes, the dialogue goes on with no event.
  pub goes_quietly : (h k : Held) (s : Session) (w : Option (List ℕ)) (xs : List ℕ) → Reads h xs [] k → Goes run h s w xs k s w
  goes_quietly h k s w xs r = record {
    events = [];
    replies = [];
    lines = r;
    dialogue = refl;
    wrote = Appends-nil w;
    none = tt;
  }

  -- If one event ends in the bytes, is answered whole and is not `quit`, the dialogue goes on.
  pub goes_one : (h k : Held) (s t : Session) (w v : Option (List ℕ)) (xs : List ℕ) (e : Event) (reply : List ℕ) → Reads h xs (e ∷ []) k →
      Answers run s (command_of_event e) reply t → is_quit e ≡ false → Appends w v (reply ++ 10 ∷ []) → Goes run h s w xs k t v
  goes_one h k s t w v xs e reply r p n a = record {
    events = e ∷ [];
    replies = reply ∷ [];
    lines = r;
    dialogue = (t, p, refl);
    wrote = a;
    none = (n, tt);
  }

  -- If the one event that was read is answered whole and ends the session, the dialogue stops with `quit`.
  pub stops_at_quit : (h k : Held) (s t : Session) (w v : Option (List ℕ)) (xs : List ℕ) (e : Event) (reply : List ℕ) → Reads h xs (e ∷ []) k →
      Answers run s (command_of_event e) reply t → is_quit e ≡ true → Appends w v (reply ++ 10 ∷ []) → Stops run h s w xs k t v Quit
  stops_at_quit h k s t w v xs e reply r p y a = record {
    events = e ∷ [];
    replies = reply ∷ [];
    lines = r;
    dialogue = (t, p, refl);
    written = reply ++ 10 ∷ [];
    missing = [];
    cut = sym (append-nil (reply ++ 10 ∷ []));
    wrote = a;
    stop = (refl, record { before = []; last = e; all = refl; none = tt; end = y });
  }

  -- If the answer to the one event that was read is written in part, the dialogue stops with a failed write.
  pub stops_at_write : (h k : Held) (s t : Session) (w v : Option (List ℕ)) (xs : List ℕ) (e : Event) (reply : List ℕ) → Reads h xs (e ∷ []) k →
      Answers run s (command_of_event e) reply t → AppendsPart w v (reply ++ 10 ∷ []) → Stops run h s w xs k t v WriteFailed
  stops_at_write h k s t w v xs e reply r p a = record {
    events = e ∷ [];
    replies = reply ∷ [];
    lines = r;
    dialogue = (t, p, refl);
    written = a.0;
    missing = a.1;
    cut = a.2;
    wrote = a.4;
    stop = (
      record { before = []; last = reply; all = refl; part = a.0; cut = a.2; some = a.3 },
      record { before = []; last = e; all = refl; none = tt; end = tt },
    );
  }

  -- If a dialogue goes on over some bytes, and then stops within others, it stops within both in a row.
  pub goes_and_stops : (h0 h1 h2 : Held) (s0 s1 s2 : Session) (w0 w1 w2 : Option (List ℕ)) (xs ys : List ℕ) (end : SessionEnd) →
      Goes run h0 s0 w0 xs h1 s1 w1 → Stops run h1 s1 w1 ys h2 s2 w2 end → Stops run h0 s0 w0 (xs ++ ys) h2 s2 w2 end
  goes_and_stops h0 h1 h2 s0 s1 s2 w0 w1 w2 xs ys end p q = record {
    events = p.events ++ q.events;
    replies = p.replies ++ q.replies;
    lines = reads_both h0 h1 h2 xs ys p.events q.events p.lines q.lines;
    dialogue = dialogue_both s0 s1 s2 p.events q.events p.replies q.replies p.dialogue q.dialogue;
    written = joined p.replies ++ q.written;
    missing = q.missing;
    cut = joined_both p.replies q.replies ∙ ap (λ x. joined p.replies ++ x) q.cut ∙ sym (append_assoc (joined p.replies) q.written q.missing);
    wrote = Appends-trans w0 w1 w2 (joined p.replies) q.written p.wrote q.wrote;
    stop = stop_after end p.events q.events p.replies q.replies q.missing p.none q.stop;
  }

  -- If the reader ends or fails after a dialogue that goes on, the dialogue is a conversation with that end.
  pub ends_at_reader : (h k : Held) (s t : Session) (r0 r1 w0 w1 : Option (List ℕ)) (input : List ℕ) (end : SessionEnd) → IsAfter [] [] h →
      Consumes r0 r1 input → Goes run h s w0 input k t w1 →
      ((events : List Event) (replies : List (List ℕ)) → NoneQuits events → IsEnd end events replies [] [] r1) → Conversation run r0 r1 w0 w1 s t end
  ends_at_reader h k s t r0 r1 w0 w1 input end a c p e = record {
    input = input;
    unread = [];
    took = rw (append-nil input) c;
    events = p.events;
    held = k;
    lines = p.lines [] [] a;
    replies = p.replies;
    dialogue = p.dialogue;
    written = joined p.replies;
    missing = [];
    cut = sym (append-nil (joined p.replies));
    wrote = p.wrote;
    ending = e p.events p.replies p.none;
  }

  -- If a dialogue stops at an event, it is a conversation with that end.
  pub ends_at_event : (h k : Held) (s t : Session) (r0 r1 w0 w1 : Option (List ℕ)) (input unread : List ℕ) (end : SessionEnd) → IsAfter [] [] h →
      Consumes r0 r1 (input ++ unread) → Stops run h s w0 input k t w1 end → Conversation run r0 r1 w0 w1 s t end
  ends_at_event h k s t r0 r1 w0 w1 input unread end a c p = record {
    input = input;
    unread = unread;
    took = c;
    events = p.events;
    held = k;
    lines = p.lines [] [] a;
    replies = p.replies;
    dialogue = p.dialogue;
    written = p.written;
    missing = p.missing;
    cut = p.cut;
    wrote = p.wrote;
    ending = end_of_stop end p.events p.replies unread p.missing r1 p.stop;
  }

  -- A conversation that begins after a drain, with no break, and leaves no reference open is a whole session.
  pub has_served : (r0 r1 w0 w1 : Option (List ℕ)) (old drained new : Log) (breaks kept : List Bool) (end : SessionEnd) → HasDrained old drained →
      ((a : ℕ) → is_break breaks a ≡ false) →
      Conversation run r0 r1 w0 w1 (session drained breaks) (session new kept) end → IsIdle new.machine →
      HasServed run r0 r1 w0 w1 old new end
  has_served r0 r1 w0 w1 old drained new breaks kept end d none c idle = record {
    drained = drained;
    drain = d;
    breaks = breaks;
    no_break = none;
    breaks' = kept;
    conversation = c;
    idle = idle;
  }
