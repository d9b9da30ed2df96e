-- What a report call writes is read back to what was logged and set up.
-- Assumes nothing.
use Rattle.std.proofs.Common.{ℕ, ◌-◌, ◌≤◌, ◌≡◌, refl, sym, ap, ◌∙◌, true, List, [], ◌∷◌, arith, length, take, drop, take_at, ltb-false}
use Rattle.std.proofs.Math.Option.{Option, none, some}
use Rattle.laws.specs.Buffers.{onto}
use Rattle.laws.proofs.Choice.{either, never}
use Rattle.laws.proofs.Members.{all_weaken}
use Rattle.units.specs.Time.{elapsed_since}
use Rattle.octets.specs.declared.numbers.Kind.{Kind}
use Rattle.octets.specs.declared.numbers.Kind.TheVariants.{Event, Diagnostic}
use Rattle.octets.specs.Numbers.{category, report_action, longest_frame, report_buffer}
use Rattle.events.specs.Times.{is_form}
use Rattle.identities.specs.Identity.{good_identity}
use Rattle.model.specs.declared.Diagnostic.{Diagnostic as DiagnosticElement}
use Rattle.model.specs.Clocks.{elapsed_clock}
use Rattle.model.specs.Model.{Address, EventRequest, DiagnosticRequest, Requester, Station, Call, of_length}
use Rattle.model.specs.Requesters.{find, form_in}
use Rattle.model.specs.Fill.{Piece, fill, next_frame}
use Rattle.model.specs.Events.{next_event}
use Rattle.model.specs.Diagnostics.{next_diagnostic}
use Rattle.model.specs.Stations.{Served, room, setup, tick, serve_found, serve_listed, give_events, give_diagnostics, if_outstanding, octets_of, give_kind, give_report, report_call, act, reading_of, step}
use Rattle.model.specs.Runs.{run}
use Rattle.report_reader.specs.Contents.{Content, content_frame}
use Rattle.report_reader.specs.Forms.{Differ}
use Rattle.report_reader.proofs.RoundTrip.{report_round_trip}
use Rattle.report_reader.proofs.Forms.{other-form_never_shown}
use Rattle.model.specs.Sound.{Identified, identified, unidentified, Sound}
use Rattle.demands.specs.StationRoundTrip.{WellFormed, Gives, Chosen, events, diagnostics, RoundTrip, StationRoundTrip, NeverShown, StationNeverShown}
use Rattle.model.proofs.Sound.{forms-found, sound_tick, always_sound}
use Rattle.model.proofs.FillLaws.{fill-fits}
use Rattle.demands.proofs.Filled.{Tells, Filled, fill_tells}
use Rattle.demands.proofs.Contents.{Good, events_tell, diagnostics_tell}

written_is : (m n : ℕ) → of_length m ≡ of_length n → m ≡ n
written_is m n e = cc

-- ---- a frame that was filled from a request

module _ {R : Type 0} (i : List ℕ) (cs : List Call) (g : Station) (kind : Kind) (next : R → Option (Piece R)) (dialog : ℕ) (q : R) (b : List ℕ) (a : Address) (r : Requester) (found : find a g.requesters ≡ some r)
    (follows : is_form r.form ≡ true) (tells : (r' : R) (p : Piece R) → next r' ≡ some p → Tells r.form kind (Good i cs g.log kind) p.octets) where
  abbrev o : List ℕ
  o = (next_frame next (report_action kind) dialog (room b) q).octets

  filled : Filled r.form kind next (Good i cs g.log kind) q (fill next (room b - 3) (room b - 3) q)
  filled = fill_tells r.form kind next (Good i cs g.log kind) tells (room b - 3) (room b - 3) q

  frame_is : o ≡ content_frame r.form kind dialog filled.contents
  unfolding next_frame
  frame_is = ap (λ (l : List ℕ). category ∷ report_action kind ∷ dialog ∷ l) filled.octets

  frame-fits : 3 ≤ length b → length o ≤ longest_frame
  unfolding next_frame
  frame-fits few = omega (arith, fill-fits next (room b - 3) (room b - 3) q)

  frame-read_back : 3 ≤ length b → ((xs : List (Content kind)) (q' : R) → Gives r.form kind next q xs q' → Chosen g r kind dialog xs) → (n : ℕ) → of_length (length o) ≡ of_length n → RoundTrip i cs g a kind n (onto o b)
  frame-read_back few chosen n e =
      let l : length o ≡ n = written_is (length o) n e in
      let t : take n (onto o b) ≡ o = take_at o (drop (length o) b) n l in
      record {
        requester = r;
        dialog = dialog;
        contents = filled.contents;
        found = found;
        chosen = chosen filled.contents _ filled.gives;
        truthful = all_weaken (λ x p. p.1) filled.contents filled.good;
        valid = all_weaken (λ x p. p.0) filled.contents filled.good;
        follows = follows;
        whole = ap length t ∙ l;
        wrote = t ∙ frame_is;
        read = λ d single. rw (t, frame_is) (report_round_trip r.form follows kind dialog filled.contents (all_weaken (λ x p. p.0) filled.contents filled.good) (rw frame_is at (frame-fits few)) d single);
      }

-- ---- the call

module _ (i : List ℕ) (cs : List Call) (whole : WellFormed cs) (g : Station) (sound : Sound i cs g) (a : Address) (b : List ℕ) (n : ℕ) where
  follows : (r : Requester) → find a g.requesters ≡ some r → is_form r.form ≡ true
  follows r found = forms-found a g.requesters r sound.forms found

  -- what is given for a listed requester is read back where it is written
  abbrev Makes : Kind → Served → Type 0
  Makes kind v = v.answer ≡ of_length n → RoundTrip i cs g a kind n v.buffer

  module _ (few : 3 ≤ length b) (r : Requester) (found : find a g.requesters ≡ some r) where
    gives-events : (q : EventRequest) → r.events ≡ some q → Makes Event (give_events elapsed_since g.log b r q)
    unfolding give_events
    gives-events q e =
        let tells = events_tell r.form i cs whole g.log sound.log in
        frame-read_back i cs g Event (next_event elapsed_since r.form g.log) q.dialog q b a r found (follows r found) tells few
        (λ xs q' h. events e h) n

    identity_there : Identified i g → (g.identity ≡ some i) × (good_identity i ≡ true)
    unfolding find
    identity_there (identified e h) = (e, h)
    identity_there (unidentified e h) = let z : find a [] ≡ some r = ap (find a) (sym h) ∙ found in never cc

    gives-diagnostics : (q : DiagnosticRequest) → r.diagnostics ≡ some q → Makes Diagnostic (give_diagnostics (octets_of g.identity) b r q)
    unfolding give_diagnostics octets_of
    gives-diagnostics q e =
        let k = identity_there sound.identity in
        let next : List DiagnosticElement → Option (Piece (List DiagnosticElement)) = next_diagnostic (octets_of g.identity) in
        let tells : (xs : List DiagnosticElement) (p : Piece (List DiagnosticElement)) → next xs ≡ some p → Tells r.form Diagnostic (Good i cs g.log Diagnostic) p.octets = rw k.0 (diagnostics_tell r.form i cs g.log k.1) in
        frame-read_back i cs g Diagnostic next q.dialog q.elements b a r found (follows r found) tells few
        (λ xs left h. diagnostics e h) n

    outstanding : {Q : Type 0} (kind : Kind) (give : Q → Served) (o : Option Q) → ((q : Q) → o ≡ some q → Makes kind (give q)) → Makes kind (if_outstanding give r b o)
    unfolding if_outstanding
    outstanding kind give none f = λ e. never cc
    outstanding kind give (some q) f = f q refl

    gives_kind : (kind : Kind) → Makes kind (give_kind elapsed_since g.identity g.log b r kind)
    unfolding give_kind
    gives_kind Event = outstanding Event _ r.events gives-events
    gives_kind Diagnostic = outstanding Diagnostic _ r.diagnostics gives-diagnostics

  gives-report : (kind : Kind) (r : Requester) → find a g.requesters ≡ some r → Makes kind (give_report elapsed_since g.identity g.log kind b r)
  unfolding give_report
  gives-report kind r found = either (Makes kind) _ _ _ (λ _ e. never cc) (λ h. gives_kind (omega (arith, ltb-false (length b) report_buffer h)) r found kind)

  found-read_back : (kind : Kind) (o : Option Requester) → find a g.requesters ≡ o
      → (serve_found a (give_report elapsed_since g.identity g.log kind b) b g o).answer ≡ of_length n → RoundTrip i cs g a kind n (serve_found a (give_report elapsed_since g.identity g.log kind b) b g o).buffer
  unfolding serve_found
  found-read_back kind none found = λ e. never cc
  found-read_back kind (some r) found = gives-report kind r found

-- What a report call writes is read back to what was logged and set up.
pub station_round_trip : StationRoundTrip
unfolding step act reading_of report_call serve_listed
station_round_trip most i l cs whole t a kind b n e =
    let g : Station = tick elapsed_clock t (run elapsed_clock most (setup most i l).station cs) in
    found-read_back i cs whole g (sound_tick most i cs elapsed_clock t _ (always_sound.after elapsed_clock most i l cs)) a b n kind (find a g.requesters) refl e

-- ---- document 02 (g)

-- a frame that is read back in the form that its requester follows shows no event in the other
pub never_shown : (i : List ℕ) (cs : List Call) (g : Station) (a : Address) (n : ℕ) (buffer : List ℕ) → RoundTrip i cs g a Event n buffer → NeverShown g a n buffer
unfolding form_in
never_shown i cs g a n buffer x told differ =
    let d : Differ x.requester.form told = rw x.found at differ in
    rw x.wrote (other-form_never_shown x.requester.form told d x.dialog x.contents x.valid)

pub station_never_shown : StationNeverShown
station_never_shown most i l cs whole t a b n e = never_shown i cs _ a n _ (station_round_trip most i l cs whole t a Event b n e)
