-- Public meaning: the report of accounts [this project, docs/FORMATS.md, Accounts].
use Rattle.std.specs.Prelude.{ℕ, Bool, not, nat_eq, List, map, codes}
use Rattle.std.specs.List.{list_any}
use Rattle.serde_json.specs.Data.{Data, number, unsigned, string, boolean, array, object, member, no_members}
use Rattle.serde_json.specs.View.{items_of}
use Rattle.sd_book.specs.Commands.{last_period, revoked}
use Rattle.sd_run_books.specs.Accounts.{Account, AccountsValue}

-- the leaf isn't among these that are revoked
abbrev pub is_active : List ℕ → ℕ → Bool
is_active revoked u = not (list_any (nat_eq u) revoked)

-- an account, where these leaves are revoked in the last period
unfoldable pub account_data : List ℕ → Account → Data
account_data revoked account = object
    (member (codes "active") (boolean (is_active revoked account.1))
    (member (codes "leaf") (number (unsigned account.1))
    (member (codes "name") (string account.0)
    no_members)))

-- the accounts, the height of the tree and the number of the last period
unfoldable pub accounts_data : AccountsValue → Data
accounts_data value =
    let last = last_period value.book.commands in
    let revoked_last = revoked value.book.height value.book.commands last in
    object
    (member (codes "accounts") (array (items_of (map (account_data revoked_last) value.accounts)))
    (member (codes "height") (number (unsigned value.book.height))
    (member (codes "period") (number (unsigned last))
    no_members)))
