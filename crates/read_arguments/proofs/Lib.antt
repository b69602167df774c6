pub mod CommentsRead
