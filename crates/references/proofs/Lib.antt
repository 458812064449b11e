pub mod PendingLaws
