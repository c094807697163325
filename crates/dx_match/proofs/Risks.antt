-- The risk of an account once it is settled.
use Rattle.std.proofs.Common.{◌≡◌, Bool, true, false, cond, Some, None, sym, ap, subst, ◌∙◌, slice_get, IfSome}
use Rattle.std.proofs.lemmas.List.Elements.{All-map}
use Rattle.dx_types.specs.declared.SubaccountId.{SubaccountId}
use Rattle.dx_types.specs.declared.Account.{Account}
use Rattle.dx_spec.specs.State.{State, account_of, is_scaled}
use Rattle.dx_spec.specs.Bounds.{is_balance}
use Rattle.dx_spec.specs.Margin.{at_index, settled_account, risk}
use Rattle.dx_types.specs.declared.Risk.{Risk}
use Rattle.dx_node_spec.specs.Sweeping.{settled_risk}
use Rattle.dx_margin.specs.Ranges.{Covers, IsCovered, HasSizes}
use Rattle.dx_margin.specs.Settling.{settlement}
use Rattle.dx_margin.specs.declared.settling.Settled.{Settled}
use Rattle.dx_accounts.specs.Steady.{IsSteady}
use Rattle.dx_accounts.proofs.Coverage.{covered_account}
use Rattle.dx_accounts.proofs.Settled.{settlement_is}
use Rattle.dx_match.proofs.Lessening.{sized_account}

module _ (s : State) (who : SubaccountId) (a : Account) (same : a ≡ account_of s who) where
  pub sized_read : IsSteady s → HasSizes a
  sized_read h = subst HasSizes (sym same) (sized_account s who h)

  settled_is : (x : Settled) → settlement s.markets a ≡ Some x → x.account ≡ settled_account s.markets (account_of s who)
  settled_is x e = ap (λ (y : Settled). y.account) (settlement_is s.markets a x e).1 ∙ ap (settled_account s.markets) same

  -- the open interest covers the positions of the settled account too
  pub covered_settled : (x : Settled) → IsSteady s → settlement s.markets a ≡ Some x → IsCovered s.markets x.account
  unfolding settled_account
  covered_settled x h e =
      subst (IsCovered s.markets) (sym (settled_is x e))
      (All-map (λ p. IfSome (slice_get s.markets p.market) (λ m. Covers m p.size)) (at_index s.markets) (account_of s who).positions.items (covered_account s who h))

  pub risk_is : (x : Settled) (r : Risk) → settlement s.markets a ≡ Some x → r ≡ risk (is_scaled s) s.markets x.account → r ≡ settled_risk s who
  unfolding settled_risk
  risk_is x r e h = h ∙ ap (risk (is_scaled s) s.markets) (settled_is x e)

  -- an account that can be settled is
  pub settles_surely : is_balance (settled_account s.markets (account_of s who)).quote ≡ true → settlement s.markets a ≡ None → ⊥
  unfolding settlement
  settles_surely h e = there (is_balance (settled_account s.markets a).quote) _ (ap (λ b. is_balance (settled_account s.markets b).quote) same ∙ h) e
    where
      there : (b : Bool) (x : Settled) → b ≡ true → cond b (Some x) None ≡ None → ⊥
      there true x f g = absurd (cc)
      there false x f g = absurd (cc)
