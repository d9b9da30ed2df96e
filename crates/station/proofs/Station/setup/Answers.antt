-- `station::Station::setup` meets its contract.
-- Assumes nothing.
use Rattle.std.proofs.Common.{sym, ap, ◌∙◌, []}
use Rattle.octets.specs.Refusals.{bad_requester_list, bad_identity}
use Rattle.identities.proofs.Laws.{identity_most}
use Rattle.model.specs.Model.{Station, accepted}
use Rattle.model.specs.Stations.{result, refused_for}
use Rattle.station.specs.Internal.{accepted_outcome}
use Rattle.station.proofs.StationLaws.{good_length, identity_some, view-setup, accepted-view, refused_leaves, setup-bad_list, setup-bad_identity, setup-good}
use Rattle.station.proofs.Station.setup.Goals as goal

pub returns-then-bad_list-clause-outcome : goal.returns-then-bad_list-clause-outcome
returns-then-bad_list-clause-outcome c = let a = c.args in c.refused_with.ensures [] ∙ ap (λ (g : Station). result g (refused_for bad_requester_list) []) c.nobody.ensures
    ∙ setup-bad_list a.identity.now a.list.now (sym c.bad_list.ensures ∙ c.if-bad_list.true)

pub returns-then-bad_list-clause-leaves : goal.returns-then-bad_list-clause-leaves
returns-then-bad_list-clause-leaves c = let a = c.args in refused_leaves _ _ _ _ (c.refused_with.ensures [])

pub returns-then-not-good_identity-clause-outcome : goal.returns-then-not-good_identity-clause-outcome
returns-then-not-good_identity-clause-outcome c = let a = c.args in c.refused_with-then-not-good_identity.ensures [] ∙ ap (λ (g : Station). result g (refused_for bad_identity) []) c.nobody-then-not-good_identity.ensures
    ∙ setup-bad_identity a.identity.now a.list.now (sym c.bad_list.ensures ∙ c.if-bad_list.false) (sym c.good_identity.ensures ∙ c.if-not-good_identity.true)

pub returns-then-not-good_identity-clause-leaves : goal.returns-then-not-good_identity-clause-leaves
returns-then-not-good_identity-clause-leaves c = let a = c.args in refused_leaves _ _ _ _ (c.refused_with-then-not-good_identity.ensures [])

pub setup_station-requires : goal.setup_station-requires
setup_station-requires c = identity_most _ (sym c.good_identity.ensures ∙ c.if-not-good_identity.false)

pub returns-clause-outcome : goal.returns-clause-outcome
returns-clause-outcome c = let a = c.args in let list = sym c.bad_list.ensures ∙ c.if-bad_list.false in let octets = sym c.good_identity.ensures ∙ c.if-not-good_identity.false in let is = c.accepted_with.ensures ∙ ap accepted_outcome c.setup_station.ensures in accepted-view _ _ is
    ∙ ap (λ (g : Station). result g accepted []) (view-setup a.identity.now a.list.now (identity_some _ octets) (good_length _ list))
    ∙ setup-good a.identity.now a.list.now list octets
